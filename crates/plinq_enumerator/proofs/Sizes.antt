-- Doubling one item sixteen times gives the largest size, so further doublings change nothing.
use Rattle.std.proofs.Common.{◌≡◌, ℕ, ◌*◌, ◌^◌, ◌<◌, ◌≤◌, min, ap, ◌∙◌, inl, inr, arith}
use Rattle.std.proofs.Math.Nat.{mul-le-mul_left}
use Rattle.std.proofs.lemmas.Nat.{pow_below}
use Rattle.std.proofs.lemmas.Bool.{cases_lt}

pub doublings-capped : (first most q : ℕ) → 1 ≤ first → most ≤ 2 ^ 16 → min most (first * 2 ^ min q 16) ≡ min most (first * 2 ^ q)
doublings-capped first most q some few =
    elim (cases_lt 16 q) [
      | inl above ↦
          let capped : min q 16 ≡ 16 = omega arith in
          let grows : 2 ^ 16 < 2 ^ q = pow_below 16 q above in
          let whole : 2 ^ 16 ≤ first * 2 ^ 16 = omega arith in
          let more : first * 2 ^ 16 ≤ first * 2 ^ q = mul-le-mul_left first (omega arith) in
          let same : min most (first * 2 ^ 16) ≡ min most (first * 2 ^ q) = omega arith in
          ap (λ k. min most (first * 2 ^ k)) capped ∙ same
      | inr within ↦
          let capped : min q 16 ≡ q = omega arith in
          ap (λ k. min most (first * 2 ^ k)) capped
    ]
