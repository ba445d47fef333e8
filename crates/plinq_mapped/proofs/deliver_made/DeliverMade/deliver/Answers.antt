use Rattle.std.proofs.Common.{rules, ◌≡◌, [], ◌∷◌, ◌++◌, Ok, Err, None, length, sym, subst, ◌∙◌}
use Rattle.std.specs.Vec.Iter.{into_iter_len, into_iter_items}
use Rattle.std.proofs.lemmas.List.{map-id}
use Rattle.std.proofs.lemmas.Iterator.Adapters.{YieldsList-from_vec}
use Rattle.std.proofs.lemmas.Iterator.Consumers.{YieldsList-so_far, YieldsList-turn}
use Rattle.plinq_source.specs.Trace.{open_trace}
use Rattle.plinq_ops.specs.Batches.{batches_from}
use Rattle.plinq_merge.specs.Sending.{IsCutOff}
use Rattle.plinq_mapped.specs.Making.{DeliversOn, gives-after, gives-breaks}
use Rattle.plinq_mapped.proofs.PartLists.{turn-parts}
use Rattle.plinq_mapped.proofs.deliver_made.DeliverMade.deliver.Goals as goal

pub loop-one-preserved : goal.loop-one-preserved
loop-one-preserved g c =
    let d = c.args.self.now in
    let one : DeliversOn g.K.Sink.accepts g.K.Sink.refuses c.loop-one.self.size c.loop-one.self.held.items c.loop-one.out
    (open_trace (c.in-Some.one ∷ [])) c.put.new.self.held.items c.put.new.out =
    search rules in
    record {
      size = c.put.ensures.size ∙ c.loop-one.invariant.size;
      gives =
          gives-after g.K.Sink.accepts g.K.Sink.refuses d.size d.held.items c.args.out.now
          (open_trace c.loop-one.yielded) c.loop-one.self.held.items c.loop-one.out (open_trace (c.in-Some.one ∷ []))
          (Ok None) c.put.new.self.held.items c.put.new.out
          c.loop-one.invariant.gives (rw c.loop-one.invariant.size at one);
    }

pub returns-in_err-put-clause-gives : goal.returns-in_err-put-clause-gives
returns-in_err-put-clause-gives g c =
    let accepts = g.K.Sink.accepts in
    let refuses = g.K.Sink.refuses in
    let d = c.args.self.now in
    let items = c.args.made.items in
    let xs = c.loop-one.yielded in
    let x = c.in-Some.one in
    let fault = c.in_err-put.field-0.0 in
    let err : c.from_residual.result ≡ Err fault = search rules in
    let from : into_iter_items c.into_iter-one-iterator.result ≡ items = search rules in
    let many : into_iter_len c.into_iter-one-iterator.result ≡ length items = search rules in
    let yields = YieldsList-from_vec items from many in
    let so_far = sym (map-id xs) ∙ YieldsList-so_far yields xs c.loop-one.one-iterator c.loop-one.yielded_by in
    let turn = YieldsList-turn yields xs c.loop-one.one-iterator c.loop-one.yielded_by c.next.result c.next.new.self x c.in-Some.is c.next.ensures.steps in
    let all = turn-parts xs items x so_far turn.0 turn.1 in
    let one : IsCutOff accepts refuses c.loop-one.out (batches_from c.loop-one.self.size c.loop-one.self.held.items (open_trace (x ∷ []))) fault c.put.new.out =
    search rules in
    let first =
    gives-after accepts refuses d.size d.held.items c.args.out.now (open_trace xs) c.loop-one.self.held.items c.loop-one.out (open_trace (x ∷ []))
    (Err fault) c.put.new.self.held.items c.put.new.out
    c.loop-one.invariant.gives (rw c.loop-one.invariant.size at one) in
    let whole = gives-breaks accepts refuses d.size d.held.items c.args.out.now (open_trace (xs ++ x ∷ [])) fault c.put.new.out (open_trace all.0) first in
    rw err (subst (λ l. IsCutOff accepts refuses c.args.out.now (batches_from d.size d.held.items (open_trace l)) fault c.put.new.out) (sym all.1) whole)
