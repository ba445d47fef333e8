-- Rows of items by rank: pairs of a rank and a name.
use Rattle.std.specs.Prelude.{◌≡◌, refl, ℕ, List, [], ◌∷◌}
use Rattle.std.specs.Ordering.{nat_cmp}
use Rattle.std.proofs.Common.{ap, arith}
use Rattle.plinq_groups.specs.Ranked.{lesser, greater}
use Rattle.plinq_groups.specs.Topped.{ranked_items, with_ranked, with_top}

abbrev rank_of : ℕ × ℕ → ℕ
rank_of item = item.0

-- the name of the first, of which there is one
abbrev first_name : List (ℕ × ℕ) → ℕ
first_name [] = 0
first_name (x ∷ xs) = x.1

abbrev three : List (ℕ × ℕ)
three = (7, 1) ∷ (9, 2) ∷ (7, 3) ∷ []

-- ---- the least and the greatest

the_lesser : lesser rank_of nat_cmp (7, 1) (3, 2) ≡ (3, 2)
the_lesser = refl

the_first_of_equals : lesser rank_of nat_cmp (7, 1) (7, 3) ≡ (7, 1)
the_first_of_equals = refl

the_greater : greater rank_of nat_cmp (7, 1) (9, 2) ≡ (9, 2)
the_greater = refl

the_first_of_equals_as_the_greatest : greater rank_of nat_cmp (7, 1) (7, 3) ≡ (7, 1)
the_first_of_equals_as_the_greatest = refl

-- ---- all by rank

the_greatest_first : ranked_items rank_of nat_cmp three ≡ (9, 2) ∷ (7, 1) ∷ (7, 3) ∷ []
the_greatest_first = refl

-- of equal ranks the later one first
equals_in_another_order : ranked_items rank_of nat_cmp ((7, 1) ∷ (7, 3) ∷ []) ≡ (7, 3) ∷ (7, 1) ∷ [] → ⊥
equals_in_another_order is = let bad : 1 ≡ 3 = ap first_name is in absurd (omega (arith, bad))

-- the least first
the_least_first : ranked_items rank_of nat_cmp ((7, 1) ∷ (9, 2) ∷ []) ≡ (7, 1) ∷ (9, 2) ∷ [] → ⊥
the_least_first is = let bad : 2 ≡ 1 = ap first_name is in absurd (omega (arith, bad))

an_equal_comes_behind : with_ranked rank_of nat_cmp ((7, 1) ∷ []) (7, 3) ≡ (7, 1) ∷ (7, 3) ∷ []
an_equal_comes_behind = refl

the_last_of_two_falls_out : with_top rank_of nat_cmp 2 ((7, 1) ∷ (3, 2) ∷ []) (9, 3) ≡ (9, 3) ∷ (7, 1) ∷ []
the_last_of_two_falls_out = refl

an_equal_stays_out : with_top rank_of nat_cmp 1 ((7, 1) ∷ []) (7, 3) ≡ (7, 1) ∷ []
an_equal_stays_out = refl
