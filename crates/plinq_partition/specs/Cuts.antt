-- How a list is cut into partitions that differ by one element at most.
use Rattle.std.specs.Prelude.{◌≡◌, ℕ, ◌+◌, ◌*◌, ◌/◌, List, [], ◌∷◌, length, take, drop, map, refl}
use Rattle.std.specs.List.{range_with_len}

-- the elements from one place up to and without another
abbrev pub between : {T : Type 0} → ℕ → ℕ → List T → List T
between from to xs = drop from (take to xs)

-- the place at which partition p of n begins, among so many elements
abbrev pub cut_place : ℕ → ℕ → ℕ → ℕ
cut_place p count n = p * count / n

-- partition p of n: the elements from its place up to the next one's
abbrev pub cut : {T : Type 0} → List T → ℕ → ℕ → List T
cut xs n p = between (cut_place p (length xs) n) (cut_place (p + 1) (length xs) n) xs

-- all n partitions, in order
abbrev pub cuts : {T : Type 0} → List T → ℕ → List (List T)
cuts xs n = map (cut xs n) (range_with_len 0 n)

abbrev three : List ℕ
three = 3 ∷ 10 ∷ 11 ∷ []

three_in_two : cuts three 2 ≡ (3 ∷ []) ∷ (10 ∷ 11 ∷ []) ∷ []
three_in_two = refl

abbrev two : List ℕ
two = 0 ∷ 1 ∷ []

two_in_four : cuts two 4 ≡ [] ∷ (0 ∷ []) ∷ [] ∷ (1 ∷ []) ∷ []
two_in_four = refl
