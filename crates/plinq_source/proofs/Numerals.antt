-- Digits one after another, and the numbers that fit.
use Rattle.std.proofs.Common.{◌≡◌, ℕ, suc, ◌+◌, ◌-◌, ◌*◌, ◌^◌, ◌<◌, ◌≤◌, min, true, false, cond, ◌&&◌, List, [], ◌∷◌, length, drop, get_or, fold}
use Rattle.std.proofs.Common.{refl, sym, ap, ◌∙◌, arith}
use Rattle.std.proofs.lemmas.Bool.Decides.{nat_tests}
use Rattle.std.specs.Char.{is_ascii_digit}
use Rattle.std.specs.List.{list_all}
use Rattle.std.proofs.lemmas.List.{drop_more}
use Rattle.plinq_source.specs.Text.{is_separator, token_ahead, number_of}

-- a digit after a number
abbrev pub digit_step : ℕ → ℕ → ℕ
digit_step n b = 10 * n + (b - 48)

-- the greatest `u64`
abbrev pub most : ℕ
most = 2 ^ 64 - 1

-- what is cut at the greatest `u64` on the way is cut all the same
pub fold_cut : (bs : List ℕ) (n : ℕ) → min (fold digit_step (min n most) bs) most ≡ min (fold digit_step n bs) most
fold_cut [] n = omega arith
fold_cut (b ∷ bs) n =
    let once : min (digit_step (min n most) b) most ≡ min (digit_step n b) most = omega arith in
    sym (fold_cut bs (digit_step (min n most) b)) ∙ ap (λ k. min (fold digit_step k bs) most) once ∙ fold_cut bs (digit_step n b)

-- a byte that is no separator stands first in the token ahead
pub token_ahead_more : (text : List ℕ) (n b : ℕ) → n < length text → get_or text n 0 ≡ b → is_separator b ≡ false
    → token_ahead (drop n text) ≡ b ∷ token_ahead (drop (n + 1) text)
token_ahead_more text n b h e s =
    ap token_ahead (drop_more text n 0 h ∙ ap (λ x. x ∷ drop (n + 1) text) e)
    ∙ ap (λ k. cond k [] (b ∷ token_ahead (drop (n + 1) text))) s

-- what a reader of digits keeps: n digits were read, of this number or the greatest that is kept
pub record ReadsDigits (text : List ℕ) (n value : ℕ) : Type 0 where
  pub digits : list_all is_ascii_digit (token_ahead text) ≡ list_all is_ascii_digit (token_ahead (drop n text))
  pub number : min (number_of (token_ahead text)) most ≡ min (fold digit_step value (token_ahead (drop n text))) most
  pub long : length (token_ahead text) ≡ n + length (token_ahead (drop n text))
  pub small : value ≤ most

digit-tests : (b : ℕ) → 48 ≤ b → b ≤ 57 → (is_separator b ≡ false) × (is_ascii_digit b ≡ true)
digit-tests b low high = (grind (arith, nat_tests), grind (arith, nat_tests))

pub ReadsDigits_more : (text : List ℕ) (n value next : ℕ) → n < length text → 48 ≤ get_or text n 0 → get_or text n 0 ≤ 57
    → next ≡ min (min (value * 10) most + (get_or text n 0 - 48)) most → ReadsDigits text n value → ReadsDigits text (n + 1) next
ReadsDigits_more text n value next h low high step r =
    let b : ℕ = get_or text n 0 in
    let tests = digit-tests b low high in
    let rest : List ℕ = token_ahead (drop (n + 1) text) in
    let ahead : token_ahead (drop n text) ≡ b ∷ rest = token_ahead_more text n b h refl tests.0 in
    let here : list_all is_ascii_digit (b ∷ rest) ≡ list_all is_ascii_digit rest = ap (λ k. k && list_all is_ascii_digit rest) tests.1 in
    let cut : next ≡ min (digit_step value b) most = omega arith in
    let long : length (token_ahead (drop n text)) ≡ suc (length rest) = ap length ahead in
    record {
      digits = r.digits ∙ ap (list_all is_ascii_digit) ahead ∙ here;
      number =
          r.number ∙ ap (λ t. min (fold digit_step value t) most) ahead ∙ sym (fold_cut rest (digit_step value b))
          ∙ ap (λ k. min (fold digit_step k rest) most) (sym cut);
      long = omega (arith, r.long);
      small = omega arith;
    }
