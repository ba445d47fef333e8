-- Which keys intervals have.
use Rattle.std.specs.Prelude.{◌≡◌, ℕ, ◌+◌, ◌<◌, ◌≤◌, ◌==◌, List, [], ◌∷◌, true, false, ◌&&◌, nat_le, nat_lt, refl}
use Rattle.std.proofs.Common.{arith}
use Rattle.std.proofs.lemmas.Bool.{and_parts, and_from, or_from, lt-ltb, le-leb, leb-true, ltb-true, false_from_ne_true}
use Rattle.std.proofs.lemmas.Bool.Decides.{nat_tests}
use Rattle.plinq_reorder.specs.Intervals.{Interval, is_within, has_key, are_apart}

pub same_key : (a b : ℕ) → (a == b) ≡ true → a ≡ b
same_key a b is = grind (arith, nat_tests)

pub same_test : (a b : ℕ) → a ≡ b → (a == b) ≡ true
same_test a b is = grind (arith, nat_tests)

pub within-from : (first end key : ℕ) → first ≤ key → key < end → is_within first end key ≡ true
within-from first end key from_first before = and_from (nat_le first key) (nat_lt key end) (le-leb first key from_first) (lt-ltb key end before)

pub within-first : (first end key : ℕ) → is_within first end key ≡ true → first ≤ key
within-first first end key within = leb-true first key (and_parts (nat_le first key) (nat_lt key end) within).0

pub within-end : (first end key : ℕ) → is_within first end key ≡ true → key < end
within-end first end key within = ltb-true key end (and_parts (nat_le first key) (nat_lt key end) within).1

pub not_within-before : (first end key : ℕ) → key < first → is_within first end key ≡ false
not_within-before first end key before = false_from_ne_true _ (λ within. let bad = within-first first end key within in omega arith)

pub not_within-after : (first end key : ℕ) → end ≤ key → is_within first end key ≡ false
not_within-after first end key past = false_from_ne_true _ (λ within. let bad = within-end first end key within in omega arith)

-- an interval of no keys has none
pub not_within-none : (first count key : ℕ) → count ≡ 0 → is_within first (first + count) key ≡ false
not_within-none first count key none =
    let test : nat_le first key && nat_lt key (first + count) ≡ false = grind (arith, nat_tests) in
    test

module _ {P : Type 0} where
  -- the parts of `are_apart`
  pub apart-start : (start : ℕ) (p : Interval P) (ps : List (Interval P)) → are_apart start (p ∷ ps) ≡ true → start ≤ p.0
  apart-start start p ps apart =
      leb-true start p.0 (and_parts (nat_le start p.0) (nat_lt p.0 p.1.end) (and_parts (nat_le start p.0 && nat_lt p.0 p.1.end)
      (are_apart p.1.end ps) apart).0).0

  pub apart-some : (start : ℕ) (p : Interval P) (ps : List (Interval P)) → are_apart start (p ∷ ps) ≡ true → p.0 < p.1.end
  apart-some start p ps apart =
      ltb-true p.0 p.1.end (and_parts (nat_le start p.0) (nat_lt p.0 p.1.end) (and_parts (nat_le start p.0 && nat_lt p.0 p.1.end)
      (are_apart p.1.end ps) apart).0).1

  pub apart-rest : (start : ℕ) (p : Interval P) (ps : List (Interval P)) → are_apart start (p ∷ ps) ≡ true → are_apart p.1.end ps ≡ true
  apart-rest start p ps apart = (and_parts (nat_le start p.0 && nat_lt p.0 p.1.end) (are_apart p.1.end ps) apart).1

  pub apart-cons : (start : ℕ) (p : Interval P) (ps : List (Interval P)) → start ≤ p.0 → p.0 < p.1.end → are_apart p.1.end ps ≡ true
      → are_apart start (p ∷ ps) ≡ true
  apart-cons start p ps from_start some rest = and_from _ _ (and_from _ _ (le-leb start p.0 from_start) (lt-ltb p.0 p.1.end some)) rest

  -- no key before all intervals is in one
  pub none-before : (start key : ℕ) (ps : List (Interval P)) → are_apart start ps ≡ true → key < start → has_key ps key ≡ false
  none-before start key [] apart before = refl
  none-before start key (p ∷ ps) apart before =
      let from_start = apart-start start p ps apart in
      let some = apart-some start p ps apart in
      or_from _ _ (not_within-before p.0 p.1.end key (omega arith)) (none-before p.1.end key ps (apart-rest start p ps apart) (omega arith))
