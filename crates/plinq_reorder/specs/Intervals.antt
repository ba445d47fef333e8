-- Intervals of keys with payloads, in the order of their first keys.
use Rattle.std.specs.Prelude.{◌≡◌, refl, ℕ, List, [], ◌∷◌, Bool, true, false, ◌&&◌, ◌||◌, if◌then◌else◌, nat_le, nat_lt, ◌==◌}
use Rattle.std.specs.Ordering.{nat_cmp}
use Rattle.std.specs.BTreeMap.{insert_entry}
use Rattle.plinq_reorder.specs.declared.span.Span.{Span}

-- an interval: its first key, and the key after its last one with what it carries
abbrev pub Interval : Type 0 → Type 0
Interval P = ℕ × Span P

-- whether a key is from `first` on and before `end`
abbrev pub is_within : ℕ → ℕ → ℕ → Bool
is_within first end key = nat_le first key && nat_lt key end

-- whether some interval has this key
abbrev pub has_key : {P : Type 0} → List (Interval P) → ℕ → Bool
has_key [] key = false
has_key (p ∷ ps) key = is_within p.0 p.1.end key || has_key ps key

-- the intervals rise from this key on, each has a key at least, and no key is in two
abbrev pub are_apart : {P : Type 0} → ℕ → List (Interval P) → Bool
are_apart start [] = true
are_apart start (p ∷ ps) = (nat_le start p.0 && nat_lt p.0 p.1.end) && are_apart p.1.end ps

-- none of these keys is in an interval
abbrev pub IsFree : {P : Type 0} → List (Interval P) → ℕ → ℕ → Type 0
IsFree ps first end = (key : ℕ) → is_within first end key ≡ true → has_key ps key ≡ false

-- the intervals, with one more in its place
abbrev pub insert : {P : Type 0} → List (Interval P) → ℕ → ℕ → P → List (Interval P)
insert ps first end payload = insert_entry nat_cmp ps first (record { end = end; payload = payload })

-- whether the first of them begins with this key
abbrev pub begins_with : {P : Type 0} → ℕ → List (Interval P) → Bool
begins_with key [] = false
begins_with key (p ∷ ps) = p.0 == key

-- those that follow one another from this key on, up to the first gap
abbrev pub unbroken_row : {P : Type 0} → ℕ → List (Interval P) → List (Interval P)
unbroken_row key [] = []
unbroken_row key (p ∷ ps) = if p.0 == key then p ∷ unbroken_row p.1.end ps else []

-- the first gap: the key after them
abbrev pub first_gap : {P : Type 0} → ℕ → List (Interval P) → ℕ
first_gap key [] = key
first_gap key (p ∷ ps) = if p.0 == key then first_gap p.1.end ps else key

-- these follow one another from a key up to another, without a gap
abbrev pub IsRow : {P : Type 0} → ℕ → List (Interval P) → ℕ → Type 0
IsRow from [] to = from ≡ to
IsRow from (p ∷ ps) to = (p.0 ≡ from) × IsRow p.1.end ps to

-- ---- worked rows

abbrev interval : ℕ → ℕ → ℕ → Interval ℕ
interval first end payload = (first, record { end = end; payload = payload })

-- keys 0 and 1, a gap at 2, and key 3
abbrev with_a_gap : List (Interval ℕ)
with_a_gap = interval 0 2 7 ∷ interval 3 4 9 ∷ []

up_to_the_gap : unbroken_row 0 with_a_gap ≡ interval 0 2 7 ∷ []
up_to_the_gap = refl

at_the_gap : first_gap 0 with_a_gap ≡ 2
at_the_gap = refl

nothing_from_a_key_that_is_missing : unbroken_row 2 with_a_gap ≡ []
nothing_from_a_key_that_is_missing = refl

the_gap_is_filled : first_gap 0 (insert with_a_gap 2 3 8) ≡ 4
the_gap_is_filled = refl

in_the_order_of_keys : insert with_a_gap 2 3 8 ≡ interval 0 2 7 ∷ interval 2 3 8 ∷ interval 3 4 9 ∷ []
in_the_order_of_keys = refl

two_that_overlap : are_apart 0 (interval 0 2 7 ∷ interval 1 3 9 ∷ []) ≡ false
two_that_overlap = refl

one_of_no_keys : are_apart 0 (interval 0 0 7 ∷ []) ≡ false
one_of_no_keys = refl
