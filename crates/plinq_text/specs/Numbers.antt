-- The number that a text is.
use Rattle.std.specs.Prelude.{ℕ, ◌+◌, ◌*◌, ◌-◌, ◌^◌, ◌==◌, ◌&&◌, Bool, not, nat_le, nat_lt, if◌then◌else◌, ℤ, pos, neg_ℤ, List, [], ◌∷◌, length, take, drop}
use Rattle.std.specs.Prelude.{Option, Some, None, option_map, option_and_then}
use Rattle.std.specs.Char.{is_ascii_digit}
use Rattle.plinq_text.specs.Fields.{after_blanks, is_blank, place_of}

-- a number with one digit more, if it is less than 2^64 then
abbrev pub with_digit : ℕ → ℕ → Option ℕ
with_digit n b = if is_ascii_digit b then if nat_lt (n * 10 + (b - 48)) (2 ^ 64) then Some (n * 10 + (b - 48)) else None else None

-- a number with further digits
unfoldable pub digits : ℕ → List ℕ → Option ℕ
digits n [] = Some n
digits n (b ∷ rest) = option_and_then (λ m. digits m rest) (with_digit n b)

abbrev pub is_point : ℕ → Bool
is_point b = b == 46

-- the billionths that a whole number and the digits after a point are
abbrev pub joined_parts : Option ℕ → Option ℕ → ℕ → Option ℕ
joined_parts None part places = None
joined_parts (Some n) None places = None
joined_parts (Some n) (Some p) places = Some (n * 1000000000 + p * 10 ^ (9 - places))

-- the same of their digits: there is one, and there are at most nine after the point
abbrev pub parts_number : List ℕ → List ℕ → Option ℕ
parts_number whole part =
    if nat_le (length part) 9 && not (length whole + length part == 0) then joined_parts (digits 0 whole) (digits 0 part) (length part) else None

-- the billionths of a number without a sign
abbrev pub magnitude : List ℕ → Option ℕ
magnitude text = parts_number (take (place_of is_point text) text) (drop (place_of is_point text + 1) text)

-- the billionths of a number with its sign
abbrev pub signed_number : List ℕ → Option ℤ
signed_number [] = None
signed_number (b ∷ rest) =
    if b == 45 then option_map (λ n. neg_ℤ (pos n)) (magnitude rest)
    else option_map pos (magnitude (if b == 43 then rest else b ∷ rest))

-- the first word of a text that begins with one, if blanks alone follow it
abbrev pub only_word : List ℕ → Option (List ℕ)
only_word text =
    if length (after_blanks (drop (place_of is_blank text) text)) == 0 then Some (take (place_of is_blank text) text) else None

-- the billionths of the number that a text is, with blanks around it or without
abbrev pub number_of : List ℕ → Option ℤ
number_of text = option_and_then signed_number (only_word (after_blanks text))
