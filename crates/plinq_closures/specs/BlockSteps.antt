-- A block of items at a step: what comes of it, by the answers that the step may give.
use Rattle.std.specs.Prelude.{◌≡◌, ℕ, ◌+◌, List, [], ◌∷◌, length, None, Result, Ok}
use Rattle.std.proofs.Common.{arith, ap}
use Rattle.plinq_lambda.specs.Block.{BlockResult, mapped_block}

-- whatever may be given is what this function answers
abbrev pub IsAnsweredBy : {T R : Type 0} → (T → R → Type 0) → (T → R) → Type 0
IsAnsweredBy {T} {R} Gives f = (x : T) (r : R) → Gives x r → r ≡ f x

-- this comes of a block by each function that answers whatever may be given
pub record GivesBlock {T R : Type 0} (turn : (T → R) → List T → BlockResult T) (Gives : T → R → Type 0)
    (xs : List T) (block : BlockResult T) : Type 0 where
  pub is : (f : T → R) → IsAnsweredBy Gives f → block ≡ turn f xs

-- a step that answers one more
abbrev one_more : ℕ → Result ℕ ℕ → Type 0
one_more x r = r ≡ Ok (x + 1)

-- no item is left out
one_is_left_out : GivesBlock mapped_block one_more (1 ∷ []) (record { items = []; fault = None }) → ⊥
one_is_left_out given =
    let same = given.is (λ x. Ok (x + 1)) (λ x r is. is) in
    omega (arith, ap (λ b. length b.items) same)
