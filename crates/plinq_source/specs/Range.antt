-- Ranges: whole numbers one after another.
use Rattle.std.specs.Prelude.{◌≡◌, ℕ, ◌+◌, ◌-◌, ◌^◌, ◌+ℤ◌, ◌||◌, ◌&&◌, ◌==◌, ℤ, pos, negsuc, Bool, true, false, List, [], ◌∷◌, map, refl, nat_le, int_le}
use Rattle.std.specs.List.{range_with_len}

-- start, start + 1, .. : count numbers
abbrev pub range_items : ℤ → ℕ → List ℤ
range_items start count = map (λ i. start +ℤ pos i) (range_with_len 0 count)

-- at most 2^40 items, and the last one, if there is one, is below 2^63
abbrev pub is_range : ℤ → ℕ → Bool
is_range start count = nat_le count (2 ^ 40) && ((count == 0) || int_le (start +ℤ pos count) (pos (2 ^ 63)))

pub range_items-row : range_items (negsuc 0) 3 ≡ negsuc 0 ∷ pos 0 ∷ pos 1 ∷ []
range_items-row = refl

-- the greatest `i64`, alone, with one after it, and no number from there on
pub is_range-one : is_range (pos (2 ^ 63 - 1)) 1 ≡ true
is_range-one = refl

pub is_range-two : is_range (pos (2 ^ 63 - 1)) 2 ≡ false
is_range-two = refl

pub is_range-none : is_range (pos (2 ^ 63 - 1)) 0 ≡ true
is_range-none = refl

-- one number too many
pub is_range-many : is_range (pos 0) (2 ^ 40 + 1) ≡ false
is_range-many = refl
