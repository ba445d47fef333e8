-- A number that is near to zero has sums with such numbers that are i64s.
use Rattle.std.proofs.Common.{◌≡◌, ℕ, suc, ◌+◌, ◌-◌, ◌^◌, ◌%◌, ◌<◌, ◌≤◌, Bool, nat_lt, false, ℤ, pos, neg_ℤ, negsuc, ◌+ℤ◌, ◌≤ℤ◌, true, is_ok, w64}
use Rattle.std.proofs.Common.{to_z, arith, List, [], ◌∷◌, zero, ap, ◌&&◌, length, drop, slice_index_or}
use Rattle.std.proofs.lemmas.Int.{to_z_pos, ints}
use Rattle.std.proofs.Math.Facts.{to_z-neg}
use Rattle.std.proofs.lemmas.Bool.Decides.{nat_tests}
use Rattle.plinq_lambda.specs.Formula.{fits}
use Rattle.plinq_lambda.specs.inner.Sums.{sums_fit}

pub near-low : (c : ℤ) (n : ℕ) → n < 2 ^ 62 → neg_ℤ (pos (2 ^ 62)) ≤ℤ c → c ≤ℤ pos (2 ^ 62) → is_ok (fits (pos n +ℤ c)) ≡ true
near-low c n low from to = grind (arith, ints)

pub near-high : (c : ℤ) (k : ℕ) → k < 2 ^ 62 → neg_ℤ (pos (2 ^ 62)) ≤ℤ c → c ≤ℤ pos (2 ^ 62) → is_ok (fits (negsuc k +ℤ c)) ≡ true
near-high c k low from to = grind (arith, ints)

-- of a number's bits, where one of the two ends holds them
pub near-bits : (c : ℤ) (n : ℕ) (b : Bool) → nat_lt n (2 ^ 62) ≡ b → n < 2 ^ 64 → (n + 2 ^ 62) % 2 ^ 64 < 2 ^ 63 → neg_ℤ (pos (2 ^ 62)) ≤ℤ c
    → c ≤ℤ pos (2 ^ 62) → is_ok (fits (to_z w64 n +ℤ c)) ≡ true
near-bits c n true low within few from to =
    let below : n < 2 ^ 62 = grind (arith, nat_tests) in
    rw (to_z_pos w64 n (omega (arith, below))) (near-low c n below from to)
near-bits c n false high within few from to =
    let above : 2 ^ 62 ≤ n = grind (arith, nat_tests) in
    let top : 2 ^ 64 ≤ n + 2 ^ 62 = omega (arith, above, within, few) in
    let k : ℕ = 2 ^ 64 - suc n in
    let same : n ≡ 2 ^ 64 - suc k = omega (arith, within) in
    rw (same) (rw (to_z-neg w64 k (omega (arith, top))) (near-high c k (omega (arith, top)) from to))

-- a number whose sum fits may be left out
pub next-fits : (c : ℤ) (xs : List ℤ) (i : ℕ) → i < length xs → is_ok (fits (slice_index_or xs i (pos 0) +ℤ c)) ≡ true
    → sums_fit c (drop i xs) ≡ sums_fit c (drop (suc i) xs)
next-fits c [] i within fit = absurd (omega (arith, within))
next-fits c (x ∷ xs) zero within fit = ap (λ b. b && sums_fit c xs) fit
next-fits c (x ∷ xs) (suc i) within fit = next-fits c xs i (omega (arith, within)) fit
