-- Which keys were offered.
use Rattle.std.specs.Prelude.{◌≡◌, ℕ, List, [], ◌∷◌, Bool, true, false, ◌||◌}
use Rattle.plinq_ops.specs.declared.results.ChunkResult.{ChunkResult}
use Rattle.plinq_ops.specs.Tails.{end_of_result}
use Rattle.plinq_reorder.specs.Intervals.{is_within}

-- whether some result has this key
abbrev pub is_offered : {T : Type 0} → List (ChunkResult T) → ℕ → Bool
is_offered [] key = false
is_offered (r ∷ rs) key = is_within r.first (end_of_result r) key || is_offered rs key

-- no key of the result was offered before
abbrev pub AreNew : {T : Type 0} → List (ChunkResult T) → ChunkResult T → Type 0
AreNew offers r = (key : ℕ) → is_within r.first (end_of_result r) key ≡ true → is_offered offers key ≡ false

-- some key of it was
abbrev pub IsDuplicate : {T : Type 0} → List (ChunkResult T) → ChunkResult T → Type 0
IsDuplicate offers r = (key : ℕ) × (is_within r.first (end_of_result r) key ≡ true) × (is_offered offers key ≡ true)
