-- A list's items are given by their places.
use Rattle.std.proofs.Common.{◌≡◌, arith, sym, ap, ◌∙◌}
use Rattle.plinq_source.specs.Trace.{step_at, list_ending}
use Rattle.plinq_source.specs.Walked.{list_whole}
use Rattle.plinq_source.specs.declared.step.Step.TheVariants.{Item}
use Rattle.plinq_source.proofs.Filling.{filled_on}
use Rattle.plinq_source.proofs.Walks.{step_at-item}
use Rattle.plinq_source.proofs.list.ListSourceSource.fill.Goals as goal

pub loop-place-preserved : goal.loop-place-preserved
loop-place-preserved g c =
    let s = c.args.self.now in
    let t = list_whole s in
    let place = c.loop-place.place in
    let x = c.index.result.now in
    let step : step_at t place ≡ Item x = step_at-item s.items.items (list_ending s.refusal) place x (omega arith) ∙ ap Item (sym c.index.ensures) in
    filled_on t s.next place c.args.items.now c.loop-place.list c.push_reserved.new.self x c.loop-place.invariant step
    c.push_reserved.ensures.items c.push_reserved.ensures.len c.push_reserved.ensures.capacity
