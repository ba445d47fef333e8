-- Numbers one after another.
use Rattle.std.proofs.Common.{◌≡◌, ℕ, zero, suc, ◌+◌, ◌-◌, ◌<◌, ◌≤◌, ◌==◌, eqb-true, eq-eqb, true, false, true≢false, [], ◌∷◌, take, drop, sym, ap}
use Rattle.std.proofs.Common.{◌∙◌, ⊎_elim, arith}
use Rattle.std.proofs.lemmas.Bool.{cases_lt}
use Rattle.plinq_stream.specs.declared.pass_knowledge.PassKnowledge.{PassKnowledge}
use Rattle.plinq_stream.specs.Knowing.{numbers_from}
use Rattle.plinq_stream.specs.Streams.{has, under, MayHandOut}
use Rattle.plinq_stream.proofs.Under.{or-cases, or-first, or-second, either-way}

-- they are at least the first
from-above : (n m count : ℕ) → has m (numbers_from n count) ≡ true → n ≤ m
from-above n m zero is = absurd (true≢false (sym is))
from-above n m (suc count) is =
    ⊎_elim (λ e. let same : n ≡ m = eqb-true n m e in omega arith) (λ e. let rest = from-above (n + 1) m count e in omega arith)
    (or-cases (n == m) (has m (numbers_from (n + 1) count)) is)

-- they are so many
pub from-below : (n m count : ℕ) → has m (numbers_from n count) ≡ true → m < n + count
from-below n m zero is = absurd (true≢false (sym is))
from-below n m (suc count) is = ⊎_elim (λ e. let same : n ≡ m = eqb-true n m e in omega arith) (λ e. let rest = from-below (n + 1) m count e in omega arith)
    (or-cases (n == m) (has m (numbers_from (n + 1) count)) is)

-- and each of them is among them
pub from-all : (n m count : ℕ) → n ≤ m → m < n + count → has m (numbers_from n count) ≡ true
from-all n m zero above below = absurd (omega arith)
from-all n m (suc count) above below = ⊎_elim
    (λ less. or-second (n == m) (has m (numbers_from (n + 1) count)) (from-all (n + 1) m count (omega arith) (omega arith)))
    (λ most. or-first (n == m) (has m (numbers_from (n + 1) count)) (eq-eqb n m (omega arith))) (cases_lt n m)

-- so many are left, and then one fewer
left-after : (n most : ℕ) → n < most → most - n ≡ suc (most - (n + 1))
left-after n most less = omega arith

pub first-of : (n most : ℕ) → n < most → take 1 (numbers_from n (most - n)) ≡ n ∷ []
first-of n most less = ap (λ k. take 1 (numbers_from n k)) (left-after n most less)

pub rest-of : (n most : ℕ) → n < most → drop 1 (numbers_from n (most - n)) ≡ numbers_from (n + 1) (most - (n + 1))
rest-of n most less = ap (λ k. drop 1 (numbers_from n k)) (left-after n most less)

-- the first isn't among the rest
first-once : (n m count : ℕ) → has m (n ∷ []) ≡ true → has m (numbers_from (n + 1) count) ≡ false
first-once n m count is = ⊎_elim
    (λ e. ⊎_elim (λ too. let same : n ≡ m = eqb-true n m e in let above = from-above (n + 1) m count too in absurd (omega arith)) (λ not. not)
    (either-way (has m (numbers_from (n + 1) count))))
    (λ e. absurd (true≢false (sym e))) (or-cases (n == m) false is)

-- a pass with such numbers that has sent nothing may hand out the first
pub may-give_number : {T : Type 0} (a : PassKnowledge T) (n most : ℕ) → n < most → a.numbers ≡ numbers_from n (most - n) → a.sent ≡ [] → MayHandOut a
may-give_number a n most less are none = record {
  unsent = λ m is. ap (under m) none;
  once = λ m is.
      let first = ap (λ l. has m (take 1 l)) are ∙ ap (has m) (first-of n most less) in
      ap (λ l. has m (drop 1 l)) are ∙ ap (has m) (rest-of n most less) ∙ first-once n m (most - (n + 1)) (sym first ∙ is);
}
