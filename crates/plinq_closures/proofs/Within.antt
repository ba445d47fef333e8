-- A block at the steps of a chain: at its last, or at those before it.
use Rattle.std.specs.Prelude.{◌≡◌, refl, ℕ, suc, ◌==◌, true, false, List, [], ◌∷◌, length, Some, Err}
use Rattle.std.proofs.Common.{subst, sym, ap}
use Rattle.plinq_lambda.specs.Block.{BlockResult, mapped_from, mapped_block, filtered_from, filtered_block, passing_from, passing_block}
use Rattle.plinq_closures.specs.BlockSteps.{GivesBlock}
use Rattle.plinq_closures.specs.Steps.{here_or, does_nothing}

module _ {T R : Type 0} (turn : (T → R) → List T → BlockResult T) (Here : T → R → Type 0) (Before : ℕ → T → R → Type 0)
    (xs : List T) (block : BlockResult T) where
  pub at_last : (at : ℕ) → at ≡ 0 → GivesBlock turn Here xs block → GivesBlock turn (λ x r. here_or (Here x r) (λ n. Before n x r) at) xs block
  at_last at is given = subst (λ n. GivesBlock turn (λ x r. here_or (Here x r) (λ m. Before m x r) n) xs block) (sym is) given

  pub at_before : (at n : ℕ) → at ≡ suc n → GivesBlock turn (Before n) xs block
      → GivesBlock turn (λ x r. here_or (Here x r) (λ m. Before m x r) at) xs block
  at_before at n is given = subst (λ k. GivesBlock turn (λ x r. here_or (Here x r) (λ m. Before m x r) k) xs block) (sym is) given

-- a step that doesn't do this faults at the first item
module _ {T : Type 0} where
  pub nothing_mapped : (xs : List T) → (length xs == 0) ≡ false → GivesBlock mapped_block does_nothing xs (record { items = []; fault = Some 0 })
  nothing_mapped [] some = absurd (let bad : true ≡ false = some in cc)
  nothing_mapped (x ∷ xs) some = record { is = λ f is. ap (λ r. mapped_from r (mapped_block f xs)) (is x (Err 0) refl) }

  pub nothing_filtered : (xs : List T) → (length xs == 0) ≡ false → GivesBlock filtered_block does_nothing xs (record { items = []; fault = Some 0 })
  nothing_filtered [] some = absurd (let bad : true ≡ false = some in cc)
  nothing_filtered (x ∷ xs) some = record { is = λ f is. ap (λ r. filtered_from r x (filtered_block f xs)) (is x (Err 0) refl) }

  pub nothing_passes : (xs : List T) → (length xs == 0) ≡ false → GivesBlock passing_block does_nothing xs (record { items = []; fault = Some 0 })
  nothing_passes [] some = absurd (let bad : true ≡ false = some in cc)
  nothing_passes (x ∷ xs) some = record { is = λ f is. ap (λ r. passing_from r x (passing_block f xs)) (is x (Err 0) refl) }
