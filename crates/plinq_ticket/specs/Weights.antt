-- How much a list weighs, where each of its elements has a weight.
use Rattle.std.specs.Prelude.{◌≡◌, ℕ, ◌+◌, List, [], ◌∷◌, refl}

-- the sum of what a function gives for each item
abbrev pub total : {A : Type 0} → (A → ℕ) → List A → ℕ
total f [] = 0
total f (x ∷ xs) = f x + total f xs

row_of_three : total (λ n. n) (1 ∷ 2 ∷ 4 ∷ []) ≡ 7
row_of_three = refl
