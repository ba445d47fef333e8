-- The item of the next key stands at its place, and after the last there is none.
use Rattle.std.proofs.Common.{arith, sym, ap, ◌∙◌}
use Rattle.std.proofs.lemmas.List.FromFn.{length-map-range_with_len, get_or-map-range_with_len}
use Rattle.plinq_slice.specs.WalkedSlices.{index_whole}
use Rattle.plinq_source.specs.declared.ending.Ending.TheVariants.{End}
use Rattle.plinq_source.specs.declared.step.Step.TheVariants.{Item}
use Rattle.plinq_source.proofs.Walks.{step_at-item, step_at-end}
use Rattle.plinq_slice.proofs.index.IndexSourceSource.next.Goals as goal

pub returns-then-self-clause-step : goal.returns-then-self-clause-step
returns-then-self-clause-step g c =
    let s = c.args.self.now in
    let items = g.F.ItemAt.items s.by in
    let xs = (index_whole g.F.ItemAt.items s).items in
    ap Item (c.item_at-item.ensures ∙ sym (get_or-map-range_with_len items 0 s.count s.next s.next (items 0) c.if-self.true (omega arith)))
    ∙ sym (step_at-item xs End s.next (items 0) (omega (arith, length-map-range_with_len items 0 s.count, c.if-self.true)))

pub returns-then-self-clause-moved : goal.returns-then-self-clause-moved
returns-then-self-clause-moved g c =
    let s = c.args.self.now in omega (arith, length-map-range_with_len (g.F.ItemAt.items s.by) 0 s.count, c.if-self.true)

pub returns-else-self-clause-step : goal.returns-else-self-clause-step
returns-else-self-clause-step g c =
    let s = c.args.self.now in
    let items = g.F.ItemAt.items s.by in
    sym (step_at-end (index_whole g.F.ItemAt.items s).items End s.next (omega (arith, length-map-range_with_len items 0 s.count, c.if-self.false)))

pub returns-else-self-clause-moved : goal.returns-else-self-clause-moved
returns-else-self-clause-moved g c =
    let s = c.args.self.now in omega (arith, length-map-range_with_len (g.F.ItemAt.items s.by) 0 s.count, c.if-self.false, s.within)
