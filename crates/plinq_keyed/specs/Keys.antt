-- Keys, and the three properties of them that a partitioner may promise.
use Rattle.std.specs.Prelude.{◌≡◌, ℕ, ◌+◌, List, [], ◌∷◌, length, map, Bool, true, false, not, ◌&&◌, ◌==◌, nat_lt, nat_le, Vec, refl}
use Rattle.std.specs.List.{list_all, list_any, concat, range_with_len}
use Rattle.std.specs.declared.alloc.Global.{Global}
use Rattle.plinq_keyed.specs.declared.keyed.Keyed.{Keyed}
use Rattle.plinq_keyed.specs.declared.properties.KeyProperties.{KeyProperties}

-- the keys of some elements
abbrev pub keys : {T : Type 0} → List (Keyed T) → List ℕ
keys xs = map (λ x. x.key) xs

-- the elements of each partition
abbrev pub element_lists : {T : Type 0} → List (Vec (Keyed T) Global) → List (List (Keyed T))
element_lists parts = map (λ part. part.items) parts

-- the keys of each partition
abbrev pub key_lists : {T : Type 0} → List (List (Keyed T)) → List (List ℕ)
key_lists parts = map keys parts

-- some values under keys that count up from k
abbrev pub keyed_from : {T : Type 0} → ℕ → List T → List (Keyed T)
keyed_from k [] = []
keyed_from k (x ∷ xs) = record { key = k; value = x } ∷ keyed_from (k + 1) xs

-- whether the first number is at least that, and each later one above the one before it
abbrev pub rises_from : ℕ → List ℕ → Bool
rises_from least [] = true
rises_from least (k ∷ ks) = nat_le least k && rises_from (k + 1) ks

-- whether the numbers rise strictly
abbrev pub rises : List ℕ → Bool
rises ks = rises_from 0 ks

-- whether the numbers of each list rise strictly
abbrev pub ordered_in_each : List (List ℕ) → Bool
ordered_in_each kss = list_all rises kss

-- whether k is below each of the others
abbrev pub is_below : List ℕ → ℕ → Bool
is_below js k = list_all (λ j. nat_lt k j) js

-- whether each number of a list is below each number of all later lists
abbrev pub ordered_across : List (List ℕ) → Bool
ordered_across [] = true
ordered_across (ks ∷ kss) = list_all (is_below (concat kss)) ks && ordered_across kss

-- whether k is among the numbers
abbrev pub is_among : List ℕ → ℕ → Bool
is_among ks k = list_any (λ j. k == j) ks

-- whether no number comes twice
abbrev pub are_distinct : List ℕ → Bool
are_distinct [] = true
are_distinct (k ∷ ks) = not (is_among ks k) && are_distinct ks

-- whether the numbers are those from 0 on, each once, in some order
abbrev pub counts_up : List ℕ → Bool
counts_up ks = list_all (λ k. nat_lt k (length ks)) ks && are_distinct ks && list_all (is_among ks) (range_with_len 0 (length ks))

-- whether the numbers of all lists together are those from 0 on, each once
abbrev pub normalized : List (List ℕ) → Bool
normalized kss = counts_up (concat kss)

-- elements in partitions have each property that is promised
pub record Keeps {T : Type 0} (promised : KeyProperties) (parts : List (List (Keyed T))) : Type 0 where
  pub in_each : promised.in_each ≡ true → ordered_in_each (key_lists parts) ≡ true
  pub across : promised.across ≡ true → ordered_across (key_lists parts) ≡ true
  pub normal : promised.normalized ≡ true → normalized (key_lists parts) ≡ true

row_in_turns : normalized ((0 ∷ 2 ∷ []) ∷ (1 ∷ []) ∷ []) ≡ true
row_in_turns = refl

row_in_turns-across : ordered_across ((0 ∷ 2 ∷ []) ∷ (1 ∷ []) ∷ []) ≡ false
row_in_turns-across = refl

row_with_gap : normalized ((0 ∷ []) ∷ (5 ∷ []) ∷ []) ≡ false
row_with_gap = refl

row_with_gap-across : ordered_across ((0 ∷ []) ∷ (5 ∷ []) ∷ []) ≡ true
row_with_gap-across = refl

row_backwards : ordered_in_each ((1 ∷ 0 ∷ []) ∷ []) ≡ false
row_backwards = refl

row_backwards-normal : normalized ((1 ∷ 0 ∷ []) ∷ []) ≡ true
row_backwards-normal = refl
