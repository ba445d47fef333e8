-- When a pass is refused.
use Rattle.std.specs.Prelude.{◌≡◌, ℕ, ◌<◌, ◌⊎◌, refl}
use Rattle.std.proofs.Common.{arith, inl, inr}
use Rattle.plinq_ticket.specs.declared.phase.Phase.TheVariants.{Idle}
use Rattle.plinq_ticket.specs.declared.standing.Standing.{Standing}
use Rattle.plinq_ticket.specs.declared.lock_fault.LockFault.{LockFault}
use Rattle.plinq_ticket.specs.declared.lock_fault.LockFault.TheVariants.{Spent, Busy, Incomplete, Memory, Away}
use Rattle.plinq_ticket.specs.Turns.{tickets_end}

-- a pass is refused only for a cause that it has now seen
abbrev pub IsCause : Standing → LockFault → Type 0
IsCause a Spent = (a.drawn ≡ tickets_end) ⊎ (a.served ≡ tickets_end)
IsCause a (Busy served drawn) = (served < drawn) × (drawn < tickets_end) × (a.served ≡ served) × (a.drawn ≡ drawn)
IsCause a (Incomplete have all) = ⊥
IsCause a Memory = ⊥
IsCause a Away = ⊥

-- a pass that has seen so many drawn and served
abbrev standing_with : ℕ → ℕ → Standing
standing_with drawn served = record { phase = Idle; drawn = drawn; served = served }

row_busy : IsCause (standing_with 5 3) (Busy 3 5)
row_busy = (omega arith, omega arith, refl, refl)

-- nobody is before a pass where each ticket that was drawn has left
row_nobody_there : IsCause (standing_with 5 5) (Busy 5 5) → ⊥
row_nobody_there cause = omega (arith, cause.0)

-- the numbers that are reported are those that were seen
row_other_numbers : IsCause (standing_with 5 3) (Busy 4 5) → ⊥
row_other_numbers cause = omega (arith, cause.2)

-- tickets are spent with the last one, and not before
row_spent : IsCause (standing_with tickets_end 3) Spent
row_spent = inl refl

row_spent_early : IsCause (standing_with 5 3) Spent → ⊥
row_spent_early (inl drawn) = omega (arith, drawn)
row_spent_early (inr served) = omega (arith, served)

row_spent_is_not_busy : IsCause (standing_with tickets_end 3) (Busy 3 tickets_end) → ⊥
row_spent_is_not_busy cause = omega (arith, cause.1)
