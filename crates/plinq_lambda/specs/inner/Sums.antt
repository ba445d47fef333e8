-- One number added to each of a block.
use Rattle.std.specs.Prelude.{◌≡◌, Bool, true, false, ◌&&◌, List, [], ◌∷◌, ℤ, pos, ◌+ℤ◌, is_ok, refl}
use Rattle.plinq_lambda.specs.Formula.{fits, greatest_number}

-- whether each sum is an i64
abbrev pub sums_fit : ℤ → List ℤ → Bool
sums_fit c [] = true
sums_fit c (x ∷ xs) = is_ok (fits (x +ℤ c)) && sums_fit c xs

one_more_than_each : sums_fit (pos 1) (pos 5 ∷ pos 0 ∷ []) ≡ true
one_more_than_each = refl

one_more_than_the_greatest : sums_fit (pos 1) (pos 5 ∷ greatest_number ∷ []) ≡ false
one_more_than_the_greatest = refl
