-- What has exactly one answer.
use Rattle.std.specs.Prelude.{◌≡◌}
use Rattle.std.proofs.Math.Path.{ap}
use Rattle.std.proofs.Math.Logic.{∥∥₁_elim, ∥∥₁_prop}
use mathlib.Core.Equiv.{IsContr, IsContr-prop}
use mathlib.Core.HLevel.{Σ_prop_path}

-- a call may be made, and in one way
abbrev pub MayCall : Type 0 → Type 0
MayCall P = IsContr P

pub MayCall-prop : (P : Type 0) → IsProp (MayCall P)
MayCall-prop P = IsContr-prop

-- exactly one answer is given
abbrev pub HasOne : {R : Type 0} → (R → Type 0) → Type 0
HasOne {R} Gives = IsContr ((v : R) × ∥ Gives v ∥₁)

-- so there is one proof of it
pub HasOne-prop : {R : Type 0} → (Gives : R → Type 0) → IsProp (HasOne Gives)
HasOne-prop Gives = IsContr-prop

-- the answer
abbrev pub answer_in : {R : Type 0} {Gives : R → Type 0} → HasOne Gives → R
answer_in one = one.0.0

-- whatever is given is the answer
pub given-answer : {R : Type 0} {Gives : R → Type 0} (one : HasOne Gives) (w : R) → Gives w → w ≡ answer_in one
given-answer one w given = ap (λ it. it.0) (one.1 (w, ∣ given ∣₁))

-- what is given, and nothing else
pub only_one : {R : Type 0} → IsSet R → (Gives : R → Type 0) → (some : (r : R) × Gives r) → ((r q : R) → Gives r → Gives q → q ≡ r) → HasOne Gives
only_one set Gives some one =
    ((some.0, ∣ some.1 ∣₁), λ it. Σ_prop_path (λ v. ∥∥₁_prop) (∥∥₁_elim it.1 (set it.0 some.0) (λ given. one some.0 it.0 some.1 given)))

pub may_call : {P : Type 0} → P → ((a b : P) → a ≡ b) → MayCall P
may_call is one = (is, λ it. one it is)
