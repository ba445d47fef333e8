-- A repeat's items are its value again and again.
use Rattle.std.proofs.Common.{◌≡◌, ◌-◌, ◌++◌, w64, to_z, of_z, arith, refl, sym, ap, ◌∙◌}
use Rattle.std.proofs.lemmas.Int.{ints}
use Rattle.std.proofs.Math.ListN.{length-replicate}
use Rattle.plinq_source.specs.Trace.{items_from, step_at}
use Rattle.plinq_source.specs.Walked.{repeat_whole}
use Rattle.plinq_source.specs.declared.ending.Ending.TheVariants.{End}
use Rattle.plinq_source.specs.declared.step.Step.TheVariants.{Item}
use Rattle.plinq_source.proofs.Filling.{filled_on, IsLast, last_items, AreEnough, enough_items}
use Rattle.plinq_source.proofs.Walks.{step_at-replicate}
use Rattle.plinq_source.proofs.repeat.RepeatSourceSource.fill.Goals as goal

pub loop-place-preserved : goal.loop-place-preserved
loop-place-preserved c =
    let s = c.args.self.now in
    let t = repeat_whole s in
    let place = c.loop-place._place in
    let x = to_z w64 (of_z w64 s.value) in
    let same : x ≡ s.value = omega (arith, ints) in
    let step : step_at t place ≡ Item x = step_at-replicate s.count s.value place (omega arith) ∙ ap Item (sym same) in
    filled_on t s.next place c.args.items.now c.loop-place.list c.push_reserved.new.self x c.loop-place.invariant step
    c.push_reserved.ensures.items c.push_reserved.ensures.len c.push_reserved.ensures.capacity

last : (c : goal.Then-n-left) → IsLast (repeat_whole c.args.self.now) c.args.self.now.next (c.args.self.now.count - c.args.self.now.next) c.args.n End
last c =
    let s = c.args.self.now in
    last_items (repeat_whole s) s.next (s.count - s.next) c.args.n End (omega (arith, length-replicate s.count s.value, s.within)) refl (omega arith)

pub returns-then-n-left-clause-filled : goal.returns-then-n-left-clause-filled
returns-then-n-left-clause-filled c =
    let s = c.args.self.now in
    let all : c.loop-place._place - s.next ≡ s.count - s.next = omega arith in
    c.loop-place.invariant.filled ∙ ap (λ m. c.args.items.now.items ++ items_from (repeat_whole s) s.next m) all
    ∙ ap (λ xs. c.args.items.now.items ++ xs) (sym (last c).items)

pub returns-then-n-left-clause-len : goal.returns-then-n-left-clause-len
returns-then-n-left-clause-len c = omega (arith, (last c).count, c.loop-place.invariant.counted)

pub returns-then-n-left-clause-moved : goal.returns-then-n-left-clause-moved
returns-then-n-left-clause-moved c = omega (arith, (last c).count)

pub returns-then-n-left-clause-ending : goal.returns-then-n-left-clause-ending
returns-then-n-left-clause-ending c = (last c).ending

enough : (c : goal.Else-n-left) → AreEnough (repeat_whole c.args.self.now) c.args.self.now.next c.args.n
enough c =
    let s = c.args.self.now in
    enough_items (repeat_whole s) s.next c.args.n (omega (arith, length-replicate s.count s.value, s.within)) (omega (arith, length-replicate s.count s.value))

pub returns-else-n-left-clause-len : goal.returns-else-n-left-clause-len
returns-else-n-left-clause-len c = omega (arith, (enough c).count, c.loop-place.invariant.counted)

pub returns-else-n-left-clause-ending : goal.returns-else-n-left-clause-ending
returns-else-n-left-clause-ending c = sym (enough c).ending
