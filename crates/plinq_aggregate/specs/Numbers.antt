-- The sum, the number, the least and the greatest of whole numbers.
use Rattle.std.specs.Prelude.{◌≡◌, refl, ℕ, ◌+◌, ◌%◌, ◌^◌, ℤ, pos, negsuc, ◌+ℤ◌, List, [], ◌∷◌, Option, Some, None, All}
use Rattle.std.specs.List.{Contains}
use Rattle.std.specs.Int.{int_wrap, w128, int_min, int_max}
use Rattle.plinq_aggregate.specs.Folding.{Folding, aggregate_value}

-- a whole number as an `i128` holds it: modulo 2^128, from -2^127 on
abbrev pub wrapped_number : ℤ → ℤ
wrapped_number z = int_wrap w128 z

-- .NET's Sum, over whole numbers
abbrev pub whole_sum : List ℤ → ℤ
whole_sum [] = pos 0
whole_sum (x ∷ xs) = x +ℤ whole_sum xs

-- the sum, modulo 2^128
abbrev pub summing : Folding ℤ ℤ ℤ
summing = record { seed = pos 0; update = λ sum x. wrapped_number (sum +ℤ x); combine = λ a b. wrapped_number (a +ℤ b); tell = λ sum. sum }

-- how many items there are, modulo 2^64
abbrev pub counting : Folding ℤ ℕ ℕ
counting = record { seed = 0; update = λ count x. (count + 1) % 2 ^ 64; combine = λ a b. (a + b) % 2 ^ 64; tell = λ count. count }

-- of two items that may be missing the one that is there, or the one that is picked of both
abbrev pub picked_item : {T : Type 0} → (T → T → T) → Option T → Option T → Option T
picked_item pick None b = b
picked_item pick (Some a) None = Some a
picked_item pick (Some a) (Some b) = Some (pick a b)

-- the item that is picked of all; of none there is none
abbrev pub picking : {T : Type 0} → (T → T → T) → Folding T (Option T) (Option T)
picking pick = record { seed = None; update = λ best x. picked_item pick best (Some x); combine = picked_item pick; tell = λ best. best }

-- one of the numbers, and in this relation to each; of none there is none
abbrev pub IsBest : (ℤ → ℤ → Type 0) → List ℤ → Option ℤ → Type 0
IsBest bounds xs None = xs ≡ []
IsBest bounds xs (Some best) = Contains xs best × All (bounds best) xs

-- ---- worked rows

three_numbers : aggregate_value summing (pos 3 ∷ pos 1 ∷ pos 2 ∷ []) ≡ pos 6
unfolding int_wrap
three_numbers = refl

-- a sum that no `i64` holds
least_twice : aggregate_value summing (negsuc 9223372036854775807 ∷ negsuc 9223372036854775807 ∷ []) ≡ negsuc 18446744073709551615
unfolding int_wrap
least_twice = refl

five_are_counted : aggregate_value counting (pos 2 ∷ pos 4 ∷ pos 6 ∷ pos 8 ∷ pos 10 ∷ []) ≡ 5
five_are_counted = refl

none_has_no_least : aggregate_value (picking int_min) [] ≡ None
none_has_no_least = refl

greatest_of_three : aggregate_value (picking int_max) (pos 3 ∷ pos 9 ∷ pos 4 ∷ []) ≡ Some (pos 9)
greatest_of_three = refl

least_of_three : aggregate_value (picking int_min) (pos 3 ∷ negsuc 0 ∷ pos 4 ∷ []) ≡ Some (negsuc 0)
least_of_three = refl
