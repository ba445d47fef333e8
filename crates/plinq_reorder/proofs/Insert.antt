-- What is true of intervals with one more, none of whose keys they had.
use Rattle.std.specs.Prelude.{◌≡◌, ℕ, ◌<◌, ◌≤◌, ◌==◌, List, [], ◌∷◌, ◌++◌, true, false, ◌||◌, nat_lt, All, refl}
use Rattle.std.specs.Ordering.{nat_cmp, match_ordering}
use Rattle.std.specs.declared.cmp.Ordering.TheVariants.{Less, Equal, Greater}
use Rattle.std.proofs.Common.{sym, ◌∙◌, ap, subst, inl, inr, arith}
use Rattle.std.proofs.lemmas.Bool.{or_parts, or_left, lt-ltb, le-ltb, ltb-false, cases_lt}
use Rattle.std.proofs.lemmas.Bool.Decides.{nat_tests}
use Rattle.std.proofs.lemmas.List.Elements.{All-cons, All-head, All-tail}
use Rattle.std.proofs.Math.Bool.{or_assoc, or_comm, or-false}
use Rattle.plinq_reorder.specs.Intervals.{Interval, is_within, has_key, are_apart, IsFree, insert}
use Rattle.plinq_reorder.specs.Buffered.{Buffered, is_taken, IsFresh, with_interval, TakesNext}
use Rattle.plinq_reorder.specs.declared.span.Span.{Span}
use Rattle.plinq_reorder.proofs.Keys.{within-from, apart-start, apart-some, apart-rest, apart-cons}

-- where an interval comes to stand whose keys are free
data IsPlace (first end at at_end : ℕ) : Type 0 where
  in_front : first < at → end ≤ at → IsPlace first end at at_end
  further : at < first → at_end ≤ first → IsPlace first end at at_end

module _ {P : Type 0} where
  -- what is true of each interval, and of the new one, is true of all
  pub All-insert : (Q : Interval P → Type 0) (ps : List (Interval P)) (first end : ℕ) (x : P) → All Q ps
      → Q (first, record { end = end; payload = x }) → All Q (insert ps first end x)
  All-insert Q [] first end x all here = All-cons Q (first, record { end = end; payload = x }) [] here all
  All-insert Q (p ∷ ps) first end x all here =
      let s : Span P = record { end = end; payload = x } in
      let head = All-head Q p ps all in
      let tail = All-tail Q p ps all in
      elim (nat_cmp first p.0) as (λ o. o ≡ nat_cmp first p.0 → All Q (match_ordering o ((first, s) ∷ p ∷ ps) ((p.0, s) ∷ ps) (p ∷ insert ps first end x))) [
        | Less ↦ λ is. All-cons Q (first, s) (p ∷ ps) here all
        | Equal ↦ λ is. All-cons Q (p.0, s) ps (subst (λ k. Q (k, s)) (same first p.0 is) here) tail
        | Greater ↦ λ is. All-cons Q p (insert ps first end x) head (All-insert Q ps first end x tail here)
      ] refl
    where
      same : (a b : ℕ) → Equal ≡ nat_cmp a b → a ≡ b
      same a b is = grind (arith, nat_tests)

  free-rest : (p : Interval P) (ps : List (Interval P)) (first end : ℕ) → IsFree (p ∷ ps) first end → IsFree ps first end
  free-rest p ps first end free key within = (or_parts (is_within p.0 p.1.end key) (has_key ps key) (free key within)).1

  find-place : (start first end : ℕ) (p : Interval P) (ps : List (Interval P)) → are_apart start (p ∷ ps) ≡ true → first < end
      → IsFree (p ∷ ps) first end → IsPlace first end p.0 p.1.end
  find-place start first end p ps apart some free =
      let has = apart-some start p ps apart in
      let not_here : (key : ℕ) → is_within first end key ≡ true → is_within p.0 p.1.end key ≡ true → ⊥ =
      λ key mine its. let bad : true ≡ false = sym (or_left _ _ its) ∙ free key mine in cc in
      elim (cases_lt first p.0) [
        | inl w ↦ elim (cases_lt p.0 end) [
          | inl over ↦ absurd (not_here p.0 (within-from first end p.0 (omega arith) over) (within-from p.0 p.1.end p.0 (omega arith) has))
          | inr past ↦ in_front w past
        ]
        | inr w ↦ elim (cases_lt first p.1.end) [
          | inl over ↦ absurd (not_here first (within-from first end first (omega arith) some) (within-from p.0 p.1.end first w over))
          | inr past ↦ further (omega arith) past
        ]
      ]

  insert-front : (first end : ℕ) (x : P) (p : Interval P) (ps : List (Interval P)) → first < p.0
      → insert (p ∷ ps) first end x ≡ (first, record { end = end; payload = x }) ∷ p ∷ ps
  insert-front first end x p ps before =
      let test : nat_lt first p.0 ≡ true = lt-ltb first p.0 before in
      rw test refl

  insert-further : (first end : ℕ) (x : P) (p : Interval P) (ps : List (Interval P)) → p.0 < first → insert (p ∷ ps) first end x ≡ p ∷ insert ps first end x
  insert-further first end x p ps later =
      let past : nat_lt first p.0 ≡ false = le-ltb first p.0 (omega arith) in
      let apart : (first == p.0) ≡ false = grind (arith, nat_tests) in
      rw (past, apart) refl

  -- a later key's place is after all of these
  pub insert-after : (done rest : List (Interval P)) (first end : ℕ) (x : P) → All (λ p. p.0 < first) done
      → insert (done ++ rest) first end x ≡ done ++ insert rest first end x
  insert-after [] rest first end x before = refl
  insert-after (p ∷ done) rest first end x before =
      insert-further first end x p (done ++ rest) (All-head (λ p. p.0 < first) p done before)
      ∙ ap (λ qs. p ∷ qs) (insert-after done rest first end x (All-tail (λ p. p.0 < first) p done before))

  -- the intervals stay apart
  pub apart-insert : (start first end : ℕ) (x : P) (ps : List (Interval P)) → are_apart start ps ≡ true → start ≤ first → first < end
      → IsFree ps first end → are_apart start (insert ps first end x) ≡ true
  apart-insert start first end x [] apart from_start some free = apart-cons start (first, record { end = end; payload = x }) [] from_start some refl
  apart-insert start first end x (p ∷ ps) apart from_start some free =
      elim (find-place start first end p ps apart some free) [
        | in_front before past ↦
            rw (insert-front first end x p ps before)
            (apart-cons start (first, record { end = end; payload = x }) (p ∷ ps) from_start some
            (apart-cons end p ps past (apart-some start p ps apart) (apart-rest start p ps apart)))
        | further later past ↦
            rw (insert-further first end x p ps later)
            (apart-cons start p (insert ps first end x) (apart-start start p ps apart) (apart-some start p ps apart)
            (apart-insert p.1.end first end x ps (apart-rest start p ps apart) past some (free-rest p ps first end free)))
      ]

  -- its keys come beside the others
  pub has_key-insert : (start first end : ℕ) (x : P) (ps : List (Interval P)) (key : ℕ) → are_apart start ps ≡ true → first < end → IsFree ps first end
      → has_key (insert ps first end x) key ≡ has_key ps key || is_within first end key
  has_key-insert start first end x [] key apart some free = or-false (is_within first end key)
  has_key-insert start first end x (p ∷ ps) key apart some free =
      elim (find-place start first end p ps apart some free) [
        | in_front before past ↦ rw (insert-front first end x p ps before) (or_comm (is_within first end key) (has_key (p ∷ ps) key))
        | further later past ↦
            rw (insert-further first end x p ps later)
            (ap (λ b. is_within p.0 p.1.end key || b) (has_key-insert p.1.end first end x ps key (apart-rest start p ps apart) some
            (free-rest p ps first end free))
            ∙ sym (or_assoc (is_within p.0 p.1.end key) (has_key ps key) (is_within first end key)))
      ]

  -- under the next key it is the first
  insert-next : (next end : ℕ) (x : P) (ps : List (Interval P)) → are_apart next ps ≡ true → next < end → IsFree ps next end
      → insert ps next end x ≡ (next, record { end = end; payload = x }) ∷ ps
  insert-next next end x [] apart some free = refl
  insert-next next end x (p ∷ ps) apart some free =
      elim (find-place next next end p ps apart some free) [
        | in_front before past ↦ insert-front next end x p ps before
        | further later past ↦ absurd (let from_start = apart-start next p ps apart in omega arith)
      ]

  -- ---- a buffer

  free-from_fresh : (b : Buffered P) (first end : ℕ) → IsFresh b first end → IsFree b.held first end
  free-from_fresh b first end fresh key within = (or_parts (nat_lt key b.next) (has_key b.held key) (fresh key within)).1

  -- fresh keys stand after those that have gone
  pub after-next : (b : Buffered P) (first end : ℕ) → IsFresh b first end → first < end → b.next ≤ first
  after-next b first end fresh some =
      ltb-false first b.next (or_parts (nat_lt first b.next) (has_key b.held first) (fresh first (within-from first end first (omega arith) some))).0

  pub apart-inserted : (b : Buffered P) (first end : ℕ) (x : P) → are_apart b.next b.held ≡ true → first < end → IsFresh b first end
      → are_apart b.next (insert b.held first end x) ≡ true
  apart-inserted b first end x apart some fresh =
      apart-insert b.next first end x b.held apart (after-next b first end fresh some) some (free-from_fresh b first end fresh)

  pub taken-with_interval : (b : Buffered P) (first end : ℕ) (x : P) (key : ℕ) → are_apart b.next b.held ≡ true → first < end → IsFresh b first end
      → is_taken (with_interval b first end x) key ≡ is_taken b key || is_within first end key
  taken-with_interval b first end x key apart some fresh =
      ap (λ v. nat_lt key b.next || v) (has_key-insert b.next first end x b.held key apart some (free-from_fresh b first end fresh))
      ∙ sym (or_assoc (nat_lt key b.next) (has_key b.held key) (is_within first end key))

  -- the interval under the next key has gone
  pub takes-next : (b : Buffered P) (x : P) (b' : Buffered P) → are_apart b.next b.held ≡ true
      → b.held ≡ (b.next, record { end = b'.next; payload = x }) ∷ b'.held
      → TakesNext b x b' × (are_apart b'.next b'.held ≡ true)
  takes-next b x b' apart is =
      let p : Interval P = (b.next, record { end = b'.next; payload = x }) in
      let all : are_apart b.next (p ∷ b'.held) ≡ true = ap (are_apart b.next) (sym is) ∙ apart in
      let some : b.next < b'.next = apart-some b.next p b'.held all in (
        record {
          held = is;
          some = some;
          keys = λ key.
              let first : nat_lt key b.next || is_within b.next b'.next key ≡ nat_lt key b'.next = grind (arith, nat_tests) in
              ap (λ v. v || has_key b'.held key) (sym first)
              ∙ or_assoc (nat_lt key b.next) (is_within b.next b'.next key) (has_key b'.held key)
              ∙ ap (λ qs. nat_lt key b.next || has_key qs key) (sym is);
        },
        apart-rest b.next p b'.held all,
      )

  -- an interval came whose turn it was
  pub inserts-next : (b : Buffered P) (first end : ℕ) (x : P) → are_apart b.next b.held ≡ true → first ≡ b.next → first < end → IsFresh b first end
      → TakesNext (with_interval b first end x) x (record b { next = end }) × (are_apart end b.held ≡ true)
  inserts-next b first end x apart turn some fresh =
      let free : IsFree b.held b.next end = subst (λ k. IsFree b.held k end) turn (free-from_fresh b first end fresh) in
      takes-next (with_interval b first end x) x (record b { next = end }) (apart-inserted b first end x apart some fresh)
      (ap (λ k. insert b.held k end x) turn ∙ insert-next b.next end x b.held apart (omega arith) free)
