use Rattle.std.specs.{List.fold, Vec.Iter.into_iter_len, Vec.Iter.into_iter_items}
use Rattle.std.specs.Prelude.{◌||◌}
use Rattle.std.proofs.Common.{rules, refl, ◌≡◌, ◌∙◌, sym, ap, length, false, Err}
use Rattle.std.proofs.Math.Bool.{or-false}
use Rattle.std.proofs.lemmas.{List.map-id, Iterator.Adapters.YieldsList-from_vec, Iterator.Consumers.YieldsList-end}
use Rattle.plinq_merge.specs.Cancelling.{IsAsked}
use Rattle.plinq_merge.specs.Lent.{delivery_of}
use Rattle.plinq_merge.specs.declared.delivery_fault.DeliveryFault.TheVariants.{Memory}
use Rattle.plinq_stopping.proofs.Summed.{summed}
use Rattle.plinq_stopping.proofs.sums.SumsTakeIntoWithCancellationAcc.take.Goals as goal

pub returns-in_err-acc-clause-made : goal.returns-in_err-acc-clause-made
returns-in_err-acc-clause-made g c =
    let w = c.args.out.now in
    let m = c.stops.new.self in
    let lets : c.stops.result ≡ false = search rules in
    let asked : IsAsked g.C.Cancel.asks false (delivery_of w) (delivery_of m) = rw lets at c.stops.ensures.asked in
    let still : m.is_stopped ≡ w.is_stopped = c.stops.ensures.noted ∙ ap (λ b. w.is_stopped || b) lets ∙ or-false w.is_stopped in
    let err : c.from_residual.result ≡ Err Memory = search rules in
    rw err (summed g.A.GrowingAggregator.folding g.C.Cancel.asks c.args.self.now w _ _ (search (rules, c.stops.ensures.same)) still asked.asked _ _ tt)

pub returns-clause-made : goal.returns-clause-made
returns-clause-made g c =
    let w = c.args.out.now in
    let m = c.stops.new.self in
    let items = c.args.items.items in
    let f = g.A.GrowingAggregator.folding c.args.self.now.aggregator.now in
    let lets : c.stops.result ≡ false = search rules in
    let asked : IsAsked g.C.Cancel.asks false (delivery_of w) (delivery_of m) = rw lets at c.stops.ensures.asked in
    let still : m.is_stopped ≡ w.is_stopped = c.stops.ensures.noted ∙ ap (λ b. w.is_stopped || b) lets ∙ or-false w.is_stopped in
    let from : into_iter_items c.into_iter-part-iterator.result ≡ items = search rules in
    let many : into_iter_len c.into_iter-part-iterator.result ≡ length items = search rules in
    let end =
    YieldsList-end (YieldsList-from_vec items from many) c.loop-part.yielded c.loop-part.part-iterator c.loop-part.yielded_by c.next.result c.next.new.self
    c.in-None.is c.next.ensures.steps in
    let all : c.loop-part.yielded ≡ items = sym (map-id c.loop-part.yielded) ∙ end.0 in
    summed g.A.GrowingAggregator.folding g.C.Cancel.asks c.args.self.now w _ _ (search (rules, c.stops.ensures.same)) still asked.asked _ _
    (refl, c.loop-part.invariant ∙ ap (fold f.combine w.sink.now) all)
