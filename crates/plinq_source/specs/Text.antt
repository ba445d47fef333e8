-- Texts: whole numbers in decimal digits, parted by spaces and line feeds.
use Rattle.std.specs.Prelude.{◌≡◌, ℕ, ◌+◌, ◌-◌, ◌*◌, ◌^◌, ◌==◌, ◌||◌, ◌&&◌, ℤ, pos, negsuc, neg_ℤ, int_le, int_lt, Bool, true, false, if◌then◌else◌, List, []}
use Rattle.std.specs.Prelude.{◌∷◌, length, drop, filter, fold, Option, Some, None, Result, Ok, Err, codes, refl}
use Rattle.std.specs.Char.{is_ascii_digit}
use Rattle.std.specs.List.{slice_split, list_all}
use Rattle.plinq_source.specs.Trace.{Trace, ended_trace, list_ending}
use Rattle.plinq_source.specs.declared.ending.Ending.TheVariants.{End, Refused}

-- a space or a line feed
abbrev pub is_separator : ℕ → Bool
is_separator b = (b == 32) || (b == 10)

-- there are some bytes
abbrev pub is_some_bytes : List ℕ → Bool
is_some_bytes [] = false
is_some_bytes (b ∷ bs) = true

-- the tokens of a text: what stands between separators, where there is something
abbrev pub tokens : List ℕ → List (List ℕ)
tokens text = filter is_some_bytes (slice_split is_separator text)

-- one or more decimal digits
abbrev pub is_number : List ℕ → Bool
is_number digits = is_some_bytes digits && list_all is_ascii_digit digits

-- the number that decimal digits write
abbrev pub number_of : List ℕ → ℕ
number_of digits = fold (λ n b. 10 * n + (b - 48)) 0 digits

-- the code of a token that is no whole number, and of one that is no `i64`
abbrev pub malformed_code : ℕ
malformed_code = 1

-- the code of a token that no `i64` holds
abbrev pub out_of_range_code : ℕ
out_of_range_code = 2

-- a whole number that is an `i64`, or else the refusal
abbrev pub number_in_range : ℤ → Result ℤ ℕ
number_in_range z = if int_le (neg_ℤ (pos (2 ^ 63))) z && int_lt z (pos (2 ^ 63)) then Ok z else Err out_of_range_code

-- what digits say under a sign
abbrev pub signed_value : (ℕ → ℤ) → List ℕ → Result ℤ ℕ
signed_value sign digits = if is_number digits then number_in_range (sign (number_of digits)) else Err malformed_code

-- what a token says: digits, or a minus and digits
abbrev pub token_value : List ℕ → Result ℤ ℕ
token_value [] = Err malformed_code
token_value (b ∷ bs) = if b == 45 then signed_value (λ n. neg_ℤ (pos n)) bs else signed_value pos (b ∷ bs)

-- one value more, if there is one
abbrev pub value_before : Result ℤ ℕ → List ℤ → List ℤ
value_before (Ok z) zs = z ∷ zs
value_before (Err code) zs = []

-- the values of the tokens before the first that is refused
abbrev pub values : List (List ℕ) → List ℤ
values [] = []
values (t ∷ ts) = value_before (token_value t) (values ts)

-- a token's refusal, or else that of those after it
abbrev pub refusal_before : Result ℤ ℕ → Option ℕ → Option ℕ
refusal_before (Ok z) past = past
refusal_before (Err code) past = Some code

-- the code of the first token that is refused
abbrev pub refusal : List (List ℕ) → Option ℕ
refusal [] = None
refusal (t ∷ ts) = refusal_before (token_value t) (refusal ts)

-- the numbers of a text, up to the first token that is refused, which ends it
abbrev pub text_trace : List ℕ → Trace ℤ
text_trace text = ended_trace (values (tokens text)) (list_ending (refusal (tokens text)))

-- the bytes before the first separator: the token that stands at the head of a text
abbrev pub token_ahead : List ℕ → List ℕ
token_ahead [] = []
token_ahead (b ∷ bs) = if is_separator b then [] else b ∷ token_ahead bs

-- how many values were handed out when a text stands at this byte: those that are no longer ahead
abbrev pub given_at : List ℕ → ℕ → ℕ
given_at text at = length (values (tokens text)) - length (values (tokens (drop at text)))

pub text_trace-malformed : text_trace (codes "7 x 9") ≡ ended_trace (pos 7 ∷ []) (Refused 1)
text_trace-malformed = refl

pub text_trace-out_of_range : text_trace (codes "12345678901234567890") ≡ ended_trace [] (Refused 2)
text_trace-out_of_range = refl

pub text_trace-signs : text_trace (codes "-9223372036854775808 007 -0") ≡ ended_trace (negsuc (2 ^ 63 - 1) ∷ pos 7 ∷ pos 0 ∷ []) End
text_trace-signs = refl

pub text_trace-plus : text_trace (codes "+1") ≡ ended_trace [] (Refused 1)
text_trace-plus = refl

pub text_trace-minus : text_trace (codes "-") ≡ ended_trace [] (Refused 1)
text_trace-minus = refl

pub text_trace-space : text_trace (codes " ") ≡ ended_trace [] End
text_trace-space = refl
