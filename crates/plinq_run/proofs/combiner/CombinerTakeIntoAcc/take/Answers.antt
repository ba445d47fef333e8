use Rattle.std.specs.{List.fold, Vec.Iter.into_iter_len, Vec.Iter.into_iter_items}
use Rattle.std.proofs.Common.{rules, refl, ◌≡◌, ◌∙◌, sym, ap, length}
use Rattle.std.proofs.lemmas.{List.map-id, Iterator.Adapters.YieldsList-from_vec, Iterator.Consumers.YieldsList-end}
use Rattle.plinq_run.proofs.combiner.CombinerTakeIntoAcc.take.Goals as goal

pub returns-clause-made : goal.returns-clause-made
returns-clause-made g c =
    let items = c.args.items.items in
    let f = g.A.GrowingAggregator.folding c.args.self.now.aggregator.now in
    let from : into_iter_items c.into_iter-part-iterator.result ≡ items = search rules in
    let many : into_iter_len c.into_iter-part-iterator.result ≡ length items = search rules in
    let end =
    YieldsList-end (YieldsList-from_vec items from many) c.loop-part.yielded c.loop-part.part-iterator c.loop-part.yielded_by c.next.result c.next.new.self
    c.in-None.is c.next.ensures.steps in
    let all : c.loop-part.yielded ≡ items = sym (map-id c.loop-part.yielded) ∙ end.0 in
    record { same = refl; combines = (refl, c.loop-part.invariant ∙ ap (fold f.combine c.args.out.now) all) }
