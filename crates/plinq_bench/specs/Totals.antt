-- A sum modulo 2^64, of parts that may be summed apart.
use Rattle.std.specs.Prelude.{◌≡◌, ℕ, ◌+◌, ◌%◌, ◌^◌, ℤ, List, [], ◌∷◌, ◌++◌}
use Rattle.std.specs.List.{fold}
use Rattle.std.specs.Int.{w64, cast_unsigned}
use Rattle.std.proofs.Common.{sym, ◌∙◌, ap, arith, add-zero}
use Rattle.std.proofs.Math.Nat.{add-mod-mod, mod-add-mod}
use Rattle.plinq_aggregate.specs.Folding.{Folding, fold_of, IsFolding}

abbrev pub totalling : Folding ℤ ℕ ℕ
totalling = record { seed = 0; update = λ sum x. (sum + cast_unsigned w64 x) % 2 ^ 64; combine = λ a b. (a + b) % 2 ^ 64; tell = λ sum. sum }

-- the sum itself
abbrev total : List ℤ → ℕ
total [] = 0
total (x ∷ xs) = cast_unsigned w64 x + total xs

total-append : (xs ys : List ℤ) → total (xs ++ ys) ≡ total xs + total ys
total-append [] ys = omega arith
total-append (x ∷ xs) ys = (let more = total-append xs ys in omega (arith, more))

total-from : (n : ℕ) (xs : List ℤ) → fold totalling.update (n % 2 ^ 64) xs ≡ (n + total xs) % 2 ^ 64
total-from n [] = ap (λ m. m % 2 ^ 64) (sym (add-zero n))
total-from n (x ∷ xs) =
    ap (λ m. fold totalling.update m xs) (mod-add-mod n (2 ^ 64) (cast_unsigned w64 x))
    ∙ total-from (n + cast_unsigned w64 x) xs
    ∙ ap (λ m. m % 2 ^ 64) (omega arith)

fold_of-total : (xs : List ℤ) → fold_of totalling xs ≡ total xs % 2 ^ 64
fold_of-total xs = total-from 0 xs ∙ ap (λ m. m % 2 ^ 64) (omega arith)

totals-join : (xs ys : List ℤ) → (fold_of totalling xs + fold_of totalling ys) % 2 ^ 64 ≡ fold_of totalling (xs ++ ys)
totals-join xs ys =
    ap (λ m. (m + fold_of totalling ys) % 2 ^ 64) (fold_of-total xs)
    ∙ ap (λ m. (total xs % 2 ^ 64 + m) % 2 ^ 64) (fold_of-total ys)
    ∙ mod-add-mod (total xs) (2 ^ 64) (total ys % 2 ^ 64)
    ∙ add-mod-mod (total xs) (total ys) (2 ^ 64)
    ∙ ap (λ m. m % 2 ^ 64) (sym (total-append xs ys))
    ∙ sym (fold_of-total (xs ++ ys))

pub totalling-lawful : IsFolding totalling
totalling-lawful = record { joins = totals-join; neutral = λ xs. totals-join [] xs }
