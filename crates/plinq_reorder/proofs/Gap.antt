-- The unbroken row of intervals from a key on, and the first gap after it.
use Rattle.std.specs.Prelude.{◌≡◌, ℕ, ◌<◌, ◌≤◌, ◌==◌, List, [], ◌∷◌, ◌++◌, true, false, cond, All, refl}
use Rattle.std.proofs.Common.{sym, ◌∙◌, ap, inl, inr, arith}
use Rattle.std.proofs.lemmas.Bool.{or_left, or_right, or_from, le-ltb, cases_lt}
use Rattle.std.proofs.lemmas.Bool.Decides.{nat_tests}
use Rattle.std.proofs.lemmas.List.Elements.{All-nil, All-cons, All-head, All-tail}
use Rattle.plinq_reorder.specs.Intervals.{Interval, has_key, are_apart, begins_with, unbroken_row, first_gap, IsRow}
use Rattle.plinq_reorder.specs.Buffered.{Buffered, IsAtGap}
use Rattle.plinq_reorder.proofs.Keys.{same_key, same_test, within-from, not_within-before, not_within-after, apart-start, apart-some, apart-rest, none-before}

module _ {P : Type 0} where
  -- by the first interval: the row goes on with it, or is at a gap
  row-cases : (Q : List (Interval P) → ℕ → Type 0) (key : ℕ) (p : Interval P) (ps : List (Interval P))
      → (p.0 ≡ key → Q (p ∷ unbroken_row p.1.end ps) (first_gap p.1.end ps))
      → ((p.0 == key) ≡ false → Q [] key) → Q (unbroken_row key (p ∷ ps)) (first_gap key (p ∷ ps))
  row-cases Q key p ps here gap =
      elim (p.0 == key) as (λ v. v ≡ (p.0 == key) → Q (cond v (p ∷ unbroken_row p.1.end ps) []) (cond v (first_gap p.1.end ps) key)) [
        | true ↦ λ is. here (same_key p.0 key (sym is))
        | false ↦ λ is. gap (sym is)
      ] refl

  -- it is a row up to the gap
  pub row-of-unbroken_row : (key : ℕ) (ps : List (Interval P)) → IsRow key (unbroken_row key ps) (first_gap key ps)
  row-of-unbroken_row key [] = refl
  row-of-unbroken_row key (p ∷ ps) = row-cases (λ us gap. IsRow key us gap) key p ps (λ is. (is, row-of-unbroken_row p.1.end ps)) (λ is. refl)

  -- of what is true of each interval
  pub All-unbroken_row : (Q : Interval P → Type 0) (key : ℕ) (ps : List (Interval P)) → All Q ps → All Q (unbroken_row key ps)
  All-unbroken_row Q key [] all = all
  All-unbroken_row Q key (p ∷ ps) all =
      row-cases (λ us gap. All Q us) key p ps (λ is. All-cons Q p (unbroken_row p.1.end ps) (All-head Q p ps all)
      (All-unbroken_row Q p.1.end ps (All-tail Q p ps all))) (λ is. All-nil Q)

  -- each key before the gap is in an interval
  pub gap-covered : (key : ℕ) (ps : List (Interval P)) (k : ℕ) → key ≤ k → k < first_gap key ps → has_key ps k ≡ true
  gap-covered key [] k from below = absurd (omega arith)
  gap-covered key (p ∷ ps) k from below =
      row-cases (λ us gap. k < gap → has_key (p ∷ ps) k ≡ true) key p ps
      (λ is later. elim (cases_lt k p.1.end) [
        | inl here ↦ or_left _ _ (within-from p.0 p.1.end k (omega arith) here)
        | inr past ↦ or_right _ _ (gap-covered p.1.end ps k past later)
      ]) (λ is none. absurd (omega arith)) below

  -- the key of the gap is in none
  pub gap-missing : (key : ℕ) (ps : List (Interval P)) → are_apart key ps ≡ true → has_key ps (first_gap key ps) ≡ false
  gap-missing key [] apart = refl
  gap-missing key (p ∷ ps) apart =
      let from_start = apart-start key p ps apart in
      let some = apart-some key p ps apart in
      let rest = apart-rest key p ps apart in
      row-cases (λ us gap. has_key (p ∷ ps) gap ≡ false) key p ps
      (λ is. let past = gap-from p.1.end ps rest in or_from _ _ (not_within-after p.0 p.1.end (first_gap p.1.end ps) past) (gap-missing p.1.end ps rest))
      (λ is. let later : key < p.0 = grind (arith, nat_tests) in
      or_from _ _ (not_within-before p.0 p.1.end key later) (none-before p.1.end key ps rest (omega arith)))
    where
      gap-from : (key : ℕ) (ps : List (Interval P)) → are_apart key ps ≡ true → key ≤ first_gap key ps
      gap-from key [] apart = omega arith
      gap-from key (p ∷ ps) apart =
          let some = apart-some key p ps apart in
          let later = gap-from p.1.end ps (apart-rest key p ps apart) in
          row-cases (λ us gap. key ≤ gap) key p ps (λ is. omega arith) (λ is. omega arith)

  -- it isn't after the end of all intervals
  pub gap-most : (most key : ℕ) (ps : List (Interval P)) → key ≤ most → All (λ p. p.1.end ≤ most) ps → first_gap key ps ≤ most
  gap-most most key [] within all = within
  gap-most most key (p ∷ ps) within all =
      row-cases (λ us gap. gap ≤ most) key p ps (λ is. gap-most most p.1.end ps (All-head (λ p. p.1.end ≤ most) p ps all)
      (All-tail (λ p. p.1.end ≤ most) p ps all)) (λ is. within)

  -- after a row, it is that row and what follows without a gap
  pub row-append : (from : ℕ) (done : List (Interval P)) (to : ℕ) (rest : List (Interval P)) → IsRow from done to
      → (unbroken_row from (done ++ rest) ≡ done ++ unbroken_row to rest) × (first_gap from (done ++ rest) ≡ first_gap to rest)
  row-append from [] to rest row = (ap (λ k. unbroken_row k rest) row, ap (λ k. first_gap k rest) row)
  row-append from (p ∷ done) to rest row =
      let later = row-append p.1.end done to rest row.1 in
      let here = same_test p.0 from row.0 in (
        ap (λ v. cond v (p ∷ unbroken_row p.1.end (done ++ rest)) []) here ∙ ap (λ qs. p ∷ qs) later.0,
        ap (λ v. cond v (first_gap p.1.end (done ++ rest)) from) here ∙ later.1,
      )

  -- with one interval more at its end, it is a row up to that one's end
  pub row-push : (from : ℕ) (done : List (Interval P)) (p : Interval P) → IsRow from done p.0 → IsRow from (done ++ p ∷ []) p.1.end
  row-push from [] p row = (sym row, refl)
  row-push from (q ∷ done) p row = (row.0, row-push q.1.end done p row.1)

  -- nothing begins with the next key
  pub at-gap : (b : Buffered P) → are_apart b.next b.held ≡ true → begins_with b.next b.held ≡ false → IsAtGap b
  at-gap b apart gap =
      let at = none-there b.next b.held gap in
      record {
        missing = or_from _ _ (le-ltb b.next b.next (omega arith)) (ap (has_key b.held) (sym at.1) ∙ gap-missing b.next b.held apart);
        nothing = at.0;
        gap = at.1;
      }
    where
      none-there : (key : ℕ) (ps : List (Interval P)) → begins_with key ps ≡ false → (unbroken_row key ps ≡ []) × (first_gap key ps ≡ key)
      none-there key [] gap = (refl, refl)
      none-there key (p ∷ ps) gap = (ap (λ v. cond v (p ∷ unbroken_row p.1.end ps) []) gap, ap (λ v. cond v (first_gap p.1.end ps) key) gap)
