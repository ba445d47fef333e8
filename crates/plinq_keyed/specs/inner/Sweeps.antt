-- What the checks know when they have come to the middle of a list.
use Rattle.std.specs.Prelude.{ℕ, ◌+◌, List, [], ◌∷◌, max, Bool, not, nat_le, nat_lt}
use Rattle.std.specs.List.{list_all}
use Rattle.plinq_keyed.specs.Keys.{is_among}

-- whether each number is at least that
abbrev pub all_from : ℕ → List ℕ → Bool
all_from least ks = list_all (λ k. nat_le least k) ks

-- whether each number is below that
abbrev pub all_below : ℕ → List ℕ → Bool
all_below bound ks = list_all (λ k. nat_lt k bound) ks

-- whether none of these is among the others
abbrev pub are_disjoint : List ℕ → List ℕ → Bool
are_disjoint ks js = list_all (λ k. not (is_among js k)) ks

-- the least number that is above each of these, and not below the one that is given
abbrev pub least_after : ℕ → List ℕ → ℕ
least_after least [] = least
least_after least (k ∷ ks) = least_after (max least (k + 1)) ks
