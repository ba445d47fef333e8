-- A range's items are its start and their places added.
use Rattle.std.proofs.Common.{◌≡◌, ◌-◌, ◌+ℤ◌, ◌++◌, pos, w64, to_z, of_z, arith, refl, sym, ap, ◌∙◌}
use Rattle.std.proofs.lemmas.Int.{ints}
use Rattle.plinq_source.specs.Trace.{items_from, step_at}
use Rattle.plinq_source.specs.Walked.{range_whole}
use Rattle.plinq_source.specs.declared.ending.Ending.TheVariants.{End}
use Rattle.plinq_source.specs.declared.step.Step.TheVariants.{Item}
use Rattle.plinq_source.proofs.Filling.{filled_on, IsLast, last_items, AreEnough, enough_items}
use Rattle.plinq_source.proofs.Walks.{step_at-range, length-range_items}
use Rattle.plinq_source.proofs.range.RangeSourceSource.fill.Goals as goal

pub loop-place-preserved : goal.loop-place-preserved
loop-place-preserved c =
    let s = c.args.self.now in
    let t = range_whole s in
    let place = c.loop-place.place in
    let x = to_z w64 (of_z w64 (to_z w64 (of_z w64 s.start) +ℤ to_z w64 place)) in
    let sum : x ≡ s.start +ℤ pos place = omega (arith, ints) in
    let step : step_at t place ≡ Item x = step_at-range s.start s.count place (omega arith) ∙ ap Item (sym sum) in
    filled_on t s.next place c.args.items.now c.loop-place.list c.push_reserved.new.self x c.loop-place.invariant step
    c.push_reserved.ensures.items c.push_reserved.ensures.len c.push_reserved.ensures.capacity

last : (c : goal.Then-n-left) → IsLast (range_whole c.args.self.now) c.args.self.now.next (c.args.self.now.count - c.args.self.now.next) c.args.n End
last c =
    let s = c.args.self.now in
    last_items (range_whole s) s.next (s.count - s.next) c.args.n End (omega (arith, length-range_items s.start s.count, s.within)) refl (omega arith)

pub returns-then-n-left-clause-filled : goal.returns-then-n-left-clause-filled
returns-then-n-left-clause-filled c =
    let s = c.args.self.now in
    let all : c.loop-place.place - s.next ≡ s.count - s.next = omega arith in
    c.loop-place.invariant.filled ∙ ap (λ m. c.args.items.now.items ++ items_from (range_whole s) s.next m) all
    ∙ ap (λ xs. c.args.items.now.items ++ xs) (sym (last c).items)

pub returns-then-n-left-clause-len : goal.returns-then-n-left-clause-len
returns-then-n-left-clause-len c = omega (arith, (last c).count, c.loop-place.invariant.counted)

pub returns-then-n-left-clause-moved : goal.returns-then-n-left-clause-moved
returns-then-n-left-clause-moved c = omega (arith, (last c).count)

pub returns-then-n-left-clause-ending : goal.returns-then-n-left-clause-ending
returns-then-n-left-clause-ending c = (last c).ending

enough : (c : goal.Else-n-left) → AreEnough (range_whole c.args.self.now) c.args.self.now.next c.args.n
enough c =
    let s = c.args.self.now in
    enough_items (range_whole s) s.next c.args.n (omega (arith, length-range_items s.start s.count, s.within))
    (omega (arith, length-range_items s.start s.count))

pub returns-else-n-left-clause-len : goal.returns-else-n-left-clause-len
returns-else-n-left-clause-len c = omega (arith, (enough c).count, c.loop-place.invariant.counted)

pub returns-else-n-left-clause-ending : goal.returns-else-n-left-clause-ending
returns-else-n-left-clause-ending c = sym (enough c).ending
