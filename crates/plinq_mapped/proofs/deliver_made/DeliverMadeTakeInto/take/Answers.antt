use Rattle.std.proofs.Common.{rules, ◌≡◌, Err, Some, None, length, sym, ◌∙◌}
use Rattle.std.specs.Vec.Iter.{into_iter_len, into_iter_items}
use Rattle.std.proofs.lemmas.List.{map-id}
use Rattle.std.proofs.lemmas.Iterator.Adapters.{YieldsList-from_vec}
use Rattle.std.proofs.lemmas.Iterator.Consumers.{YieldsList-so_far, YieldsList-turn, YieldsList-end}
use Rattle.plinq_source.specs.Trace.{open_trace}
use Rattle.plinq_ops.specs.Batches.{batches_from}
use Rattle.plinq_merge.specs.Sending.{IsCutOff}
use Rattle.plinq_mapped.specs.Making.{DeliversOn}
use Rattle.plinq_mapped.proofs.PartLists.{turn-parts, all-end, part-kept, part-cut, part-ends}
use Rattle.plinq_mapped.proofs.deliver_made.DeliverMadeTakeInto.take.Goals as goal

pub returns-in_err-deliver-clause-made : goal.returns-in_err-deliver-clause-made
returns-in_err-deliver-clause-made g c =
    let d = c.args.self.now in
    let items = c.args.items.items in
    let ps = c.loop-part.yielded in
    let p = c.in-Some.part in
    let ys = c.into_parts-made.result.0.items in
    let o = c.into_parts-made.result.1 in
    let fault = c.in_err-deliver.field-0.0 in
    let err : c.from_residual.result ≡ Err fault = search rules in
    let from : into_iter_items c.into_iter-part-iterator.result ≡ items = search rules in
    let many : into_iter_len c.into_iter-part-iterator.result ≡ length items = search rules in
    let yields = YieldsList-from_vec items from many in
    let so_far = sym (map-id ps) ∙ YieldsList-so_far yields ps c.loop-part.part-iterator c.loop-part.yielded_by in
    let turn = YieldsList-turn yields ps c.loop-part.part-iterator c.loop-part.yielded_by c.next.result c.next.new.self p c.in-Some.is c.next.ensures.steps in
    let all = turn-parts ps items p so_far turn.0 turn.1 in
    let cut : IsCutOff g.K.Sink.accepts g.K.Sink.refuses c.loop-part.out (batches_from c.loop-part.self.size c.loop-part.self.held.items (open_trace ys))
    fault c.deliver.new.out =
    search rules in
    rw err (record {
      size = c.deliver.ensures.size ∙ c.loop-part.invariant.size;
      gives =
          part-cut g.K.Sink.accepts g.K.Sink.refuses d.size d.held.items c.args.out.now ps c.loop-part.self.held.items c.loop-part.out
          c.loop-part.invariant.gives ys o p c.into_parts-made.ensures items all.0 all.1 c.args.ending fault c.deliver.new.out
          (rw c.loop-part.invariant.size at cut);
    })

pub returns-in-Some-fault-clause-made : goal.returns-in-Some-fault-clause-made
returns-in-Some-fault-clause-made g c =
    let d = c.args.self.now in
    let items = c.args.items.items in
    let ps = c.loop-part.yielded in
    let p = c.in-Some.part in
    let ys = c.into_parts-made.result.0.items in
    let o = c.into_parts-made.result.1 in
    let from : into_iter_items c.into_iter-part-iterator.result ≡ items = search rules in
    let many : into_iter_len c.into_iter-part-iterator.result ≡ length items = search rules in
    let yields = YieldsList-from_vec items from many in
    let so_far = sym (map-id ps) ∙ YieldsList-so_far yields ps c.loop-part.part-iterator c.loop-part.yielded_by in
    let turn = YieldsList-turn yields ps c.loop-part.part-iterator c.loop-part.yielded_by c.next.result c.next.new.self p c.in-Some.is c.next.ensures.steps in
    let all = turn-parts ps items p so_far turn.0 turn.1 in
    let some : o ≡ Some c.in-Some-fault.code = search rules in
    let on : DeliversOn g.K.Sink.accepts g.K.Sink.refuses c.loop-part.self.size c.loop-part.self.held.items c.loop-part.out
    (open_trace ys) c.deliver.new.self.held.items c.deliver.new.out =
    search rules in
    record {
      size = c.end.ensures.size ∙ c.deliver.ensures.size ∙ c.loop-part.invariant.size;
      gives =
          part-ends g.K.Sink.accepts g.K.Sink.refuses d.size d.held.items c.args.out.now ps c.loop-part.self.held.items c.loop-part.out
          c.loop-part.invariant.gives ys o p c.into_parts-made.ensures items all.0 all.1 c.args.ending c.in-Some-fault.code
          c.deliver.new.self.held.items c.deliver.new.out some (rw c.loop-part.invariant.size at on) c.end.result c.end.new.self.held.items c.end.new.out
          (rw (c.deliver.ensures.size, c.loop-part.invariant.size) at c.end.ensures.gives);
    }

pub loop-part-preserved : goal.loop-part-preserved
loop-part-preserved g c =
    let d = c.args.self.now in
    let ys = c.into_parts-made.result.0.items in
    let o = c.into_parts-made.result.1 in
    let none : o ≡ None = search rules in
    let on : DeliversOn g.K.Sink.accepts g.K.Sink.refuses c.loop-part.self.size c.loop-part.self.held.items c.loop-part.out
    (open_trace ys) c.deliver.new.self.held.items c.deliver.new.out =
    search rules in
    record {
      size = c.deliver.ensures.size ∙ c.loop-part.invariant.size;
      gives =
          part-kept g.K.Sink.accepts g.K.Sink.refuses d.size d.held.items c.args.out.now c.loop-part.yielded c.loop-part.self.held.items c.loop-part.out
          c.loop-part.invariant.gives ys o c.in-Some.part c.into_parts-made.ensures
          c.deliver.new.self.held.items c.deliver.new.out none (rw c.loop-part.invariant.size at on);
    }

pub returns-in-Some-ending-clause-made : goal.returns-in-Some-ending-clause-made
returns-in-Some-ending-clause-made g c =
    let d = c.args.self.now in
    let items = c.args.items.items in
    let ps = c.loop-part.yielded in
    let from : into_iter_items c.into_iter-part-iterator.result ≡ items = search rules in
    let many : into_iter_len c.into_iter-part-iterator.result ≡ length items = search rules in
    let end =
    YieldsList-end (YieldsList-from_vec items from many) ps c.loop-part.part-iterator c.loop-part.yielded_by c.next.result c.next.new.self c.in-None.is
    c.next.ensures.steps in
    let same : ps ≡ items = sym (map-id ps) ∙ end.0 in
    let ends : c.args.ending ≡ Some c.in-Some-ending.ending = c.in-Some-ending.is in
    rw ends (record {
      size = c.end-in-Some-ending.ensures.size ∙ c.loop-part.invariant.size;
      gives =
          all-end g.K.Sink.accepts g.K.Sink.refuses d.size d.held.items c.args.out.now ps c.loop-part.self.held.items c.loop-part.out
          c.loop-part.invariant.gives items c.in-Some-ending.ending same
          c.end-in-Some-ending.result c.end-in-Some-ending.new.self.held.items c.end-in-Some-ending.new.out
          (rw c.loop-part.invariant.size at c.end-in-Some-ending.ensures.gives);
    })
