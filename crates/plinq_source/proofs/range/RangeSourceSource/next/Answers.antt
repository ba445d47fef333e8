-- A range's item is its start and the place added; its list is as long as its count.
use Rattle.std.proofs.Common.{◌≡◌, ◌+ℤ◌, pos, w64, to_z, of_z, arith, sym, ap, ◌∙◌}
use Rattle.std.proofs.lemmas.Int.{ints}
use Rattle.plinq_source.specs.Range.{range_items}
use Rattle.plinq_source.specs.declared.ending.Ending.TheVariants.{End}
use Rattle.plinq_source.specs.declared.step.Step.TheVariants.{Item}
use Rattle.plinq_source.proofs.Walks.{step_at-range, step_at-end, length-range_items}
use Rattle.plinq_source.proofs.range.RangeSourceSource.next.Goals as goal

pub returns-then-self-clause-step : goal.returns-then-self-clause-step
returns-then-self-clause-step c =
    let s = c.args.self.now in
    let sum : to_z w64 (of_z w64 (to_z w64 (of_z w64 s.start) +ℤ to_z w64 s.next)) ≡ s.start +ℤ pos s.next = omega (arith, ints) in
    ap Item sum ∙ sym (step_at-range s.start s.count s.next c.if-self.true)

pub returns-then-self-clause-moved : goal.returns-then-self-clause-moved
returns-then-self-clause-moved c = omega (arith, length-range_items c.args.self.now.start c.args.self.now.count)

pub returns-else-self-clause-step : goal.returns-else-self-clause-step
returns-else-self-clause-step c =
    let s = c.args.self.now in
    sym (step_at-end (range_items s.start s.count) End s.next (omega (arith, length-range_items s.start s.count)))

pub returns-else-self-clause-moved : goal.returns-else-self-clause-moved
returns-else-self-clause-moved c = omega (arith, length-range_items c.args.self.now.start c.args.self.now.count)
