use Rattle.std.proofs.Common.{rules, ◌≡◌, false, refl, subst}
use Rattle.plinq_reorder.specs.Intervals.{begins_with}
use Rattle.plinq_reorder.specs.Buffered.{Buffered, IsAtGap}
use Rattle.plinq_reorder.proofs.Gap.{at-gap}
use Rattle.plinq_reorder.proofs.reorder_buffer.ReorderBuffer.take_next.Goals as goal

pub returns-then-not-is_next_there : goal.returns-then-not-is_next_there
returns-then-not-is_next_there g c =
    let b : Buffered g.row.P.Denot = record { next = c.self.inside.next; held = c.self.inside.held.entries } in
    let gap : begins_with b.next b.held ≡ false = search rules in
    (refl, subst (λ v. IsAtGap v) c.self.view_is (at-gap b c.self.invariant gap))
