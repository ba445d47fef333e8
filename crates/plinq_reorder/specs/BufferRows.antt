-- Rows of a reorder buffer: what it holds, and what comes in and goes.
use Rattle.std.specs.Prelude.{◌≡◌, refl, ℕ, [], ◌∷◌, true, false, Some, None}
use Rattle.std.proofs.Common.{ap, arith}
use Rattle.std.proofs.lemmas.Bool.Decides.{nat_tests}
use Rattle.plinq_reorder.specs.Intervals.{Interval, is_within, has_key, begins_with, IsFree, IsRow}
use Rattle.plinq_reorder.specs.Buffered.{Buffered, is_taken, IsFresh, Overlaps, with_interval, Inserts, Takes}

abbrev interval : ℕ → ℕ → ℕ → Interval ℕ
interval first end payload = (first, record { end = end; payload = payload })

-- keys 0 and 1 have gone, and keys 4 and 5 are held
abbrev with_two_held : Buffered ℕ
with_two_held = record { next = 2; held = interval 4 6 9 ∷ [] }

-- ---- keys

the_first_is_within : is_within 4 6 4 ≡ true
the_first_is_within = refl

the_end_is_not_within : is_within 4 6 6 ≡ false
the_end_is_not_within = refl

a_key_of_the_second : has_key (interval 0 2 7 ∷ interval 4 6 9 ∷ []) 5 ≡ true
a_key_of_the_second = refl

a_key_of_none : has_key (interval 0 2 7 ∷ interval 4 6 9 ∷ []) 3 ≡ false
a_key_of_none = refl

begins_with_its_first : begins_with 4 (interval 4 6 9 ∷ []) ≡ true
begins_with_its_first = refl

does_not_begin_with_its_second : begins_with 5 (interval 4 6 9 ∷ []) ≡ false
does_not_begin_with_its_second = refl

does_not_begin_with_a_later_one : begins_with 4 (interval 0 2 7 ∷ interval 4 6 9 ∷ []) ≡ false
does_not_begin_with_a_later_one = refl

one_that_has_gone_is_taken : is_taken with_two_held 1 ≡ true
one_that_has_gone_is_taken = refl

one_that_is_held_is_taken : is_taken with_two_held 5 ≡ true
one_that_is_held_is_taken = refl

the_next_is_not_taken : is_taken with_two_held 2 ≡ false
the_next_is_not_taken = refl

-- an interval of which the last key alone is held
not_free_at_its_end : IsFree with_two_held.held 3 5 → ⊥
not_free_at_its_end free = let bad : true ≡ false = free 4 refl in cc

not_fresh_at_its_end : IsFresh with_two_held 3 5 → ⊥
not_fresh_at_its_end fresh = let bad : true ≡ false = fresh 4 refl in cc

-- one of which the first key alone has gone
not_fresh_at_its_beginning : IsFresh with_two_held 1 3 → ⊥
not_fresh_at_its_beginning fresh = let bad : true ≡ false = fresh 1 refl in cc

overlaps_at_its_end : Overlaps with_two_held 3 5
overlaps_at_its_end = (4, refl, refl)

-- one of no keys
overlaps_without_keys : Overlaps with_two_held 4 4 → ⊥
overlaps_without_keys both = let within : is_within 4 4 both.0 ≡ true = both.1 in absurd (grind (arith, nat_tests))

-- ---- rows

two_in_a_row : IsRow 0 (interval 0 2 7 ∷ interval 2 3 8 ∷ []) 3
two_in_a_row = (refl, (refl, refl))

a_row_with_a_gap : IsRow 0 (interval 0 2 7 ∷ interval 4 6 9 ∷ []) 6 → ⊥
a_row_with_a_gap row = absurd (omega (arith, row.1.0))

a_row_that_ends_later : IsRow 0 (interval 0 2 7 ∷ []) 3 → ⊥
a_row_that_ends_later row = absurd (omega (arith, row.1))

a_row_that_begins_later : IsRow 0 (interval 1 2 7 ∷ []) 2 → ⊥
a_row_that_begins_later row = absurd (omega (arith, row.0))

-- ---- what comes in

held_before_its_turn : Inserts with_two_held 3 4 7 None (record { next = 2; held = interval 3 4 7 ∷ interval 4 6 9 ∷ [] })
held_before_its_turn = (λ is. absurd (omega (arith, is)), refl)

held_in_its_turn : (b' : Buffered ℕ) → Inserts with_two_held 2 3 7 None b' → ⊥
held_in_its_turn b' inserts = inserts.0 refl

lost_as_it_comes : Inserts with_two_held 3 4 7 None with_two_held → ⊥
lost_as_it_comes inserts = let bad : false ≡ true = ap (λ b. begins_with 3 b.held) inserts.1 in cc

goes_in_its_turn : Inserts with_two_held 2 3 7 (Some 7) (record { next = 3; held = interval 4 6 9 ∷ [] })
goes_in_its_turn = (refl, record { held = refl; some = omega arith; keys = goes-keys })
  where
    goes-keys : (key : ℕ) → is_taken (record { next = 3; held = interval 4 6 9 ∷ [] }) key ≡ is_taken (with_interval with_two_held 2 3 7) key
    goes-keys key = grind (arith)

goes_with_another_payload : (b' : Buffered ℕ) → Inserts with_two_held 2 3 7 (Some 8) b' → ⊥
goes_with_another_payload b' inserts = absurd (omega (arith, inserts.0))

goes_before_its_turn : (b' : Buffered ℕ) → Inserts with_two_held 3 4 7 (Some 7) b' → ⊥
goes_before_its_turn b' inserts = let bad : true ≡ false = ap (begins_with 3) inserts.1.held in cc

-- ---- what goes

-- all keys before those that are held have gone
abbrev before_four : Buffered ℕ
before_four = record { next = 4; held = interval 4 6 9 ∷ [] }

nothing_at_a_gap : Takes with_two_held None with_two_held
nothing_at_a_gap = (refl, record { missing = refl; nothing = refl; gap = refl })

nothing_though_it_is_there : (b' : Buffered ℕ) → Takes before_four None b' → ⊥
nothing_though_it_is_there b' takes = let bad : true ≡ false = takes.1.missing in cc

nothing_and_one_is_lost : Takes with_two_held None (record { next = 2; held = [] }) → ⊥
nothing_and_one_is_lost takes = let bad : false ≡ true = ap (λ b. begins_with 4 b.held) takes.0 in cc

taken_over_a_gap : (b' : Buffered ℕ) → Takes with_two_held (Some 9) b' → ⊥
taken_over_a_gap b' takes = let bad : true ≡ false = ap (begins_with 4) takes.held in cc

taken_and_still_held : Takes before_four (Some 9) before_four → ⊥
taken_and_still_held takes = let some = takes.some in absurd (omega arith)

taken_too_far : Takes before_four (Some 9) (record { next = 7; held = [] }) → ⊥
taken_too_far takes = let bad : true ≡ false = takes.keys 6 in cc
