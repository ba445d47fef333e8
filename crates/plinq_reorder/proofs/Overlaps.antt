-- Whether one of some keys is in an interval, by the last interval that begins before they end.
use Rattle.std.specs.Prelude.{◌≡◌, ℕ, ◌<◌, ◌≤◌, List, [], ◌∷◌, ◌++◌, Bool, true, false, cond, nat_lt, refl}
use Rattle.std.specs.List.{filter}
use Rattle.std.specs.Ordering.{nat_cmp}
use Rattle.std.specs.BTreeMap.Range.{range_contains, entries_between}
use Rattle.std.specs.declared.ops.Bound.TheVariants.{Unbounded, Excluded}
use Rattle.std.proofs.Common.{sym, subst, inl, inr, arith}
use Rattle.std.proofs.lemmas.Bool.{or_from, or_left, or_right, le-ltb, cases_lt}
use Rattle.std.proofs.lemmas.Bool.Decides.{nat_tests}
use Rattle.plinq_reorder.specs.Intervals.{Interval, is_within, has_key, are_apart}
use Rattle.plinq_reorder.specs.Buffered.{Buffered, IsFresh, Overlaps}
use Rattle.plinq_reorder.proofs.Keys.{within-from, within-first, within-end, not_within-before, not_within-after, apart-start, apart-some, apart-rest}

-- whether a key is before `end`, as the map's search by range asks
abbrev pub is_before : ℕ → ℕ → Bool
is_before end key = range_contains nat_cmp Unbounded (Excluded end) key

before-no : (end key : ℕ) → is_before end key ≡ false → end ≤ key
before-no end key test = grind (arith, nat_tests)

before-true : (end key : ℕ) → is_before end key ≡ true → key < end
before-true end key test = grind (arith, nat_tests)

module _ {P : Type 0} where
  abbrev begun_before : ℕ → List (Interval P) → List (Interval P)
  begun_before end ps = filter (λ p. is_before end p.0) ps

  -- no key is there where no interval begins before it
  none-begun : (end : ℕ) (ps : List (Interval P)) (key : ℕ) → begun_before end ps ≡ [] → key < end → has_key ps key ≡ false
  none-begun end [] key none before = refl
  none-begun end (p ∷ ps) key none before =
      elim (is_before end p.0) as (λ v. v ≡ is_before end p.0 → cond v (p ∷ begun_before end ps) (begun_before end ps) ≡ [] → has_key (p ∷ ps) key ≡ false) [
        | true ↦ λ is bad. absurd (cc)
        | false ↦ λ is rest.
            let past : end ≤ p.0 = before-no end p.0 (sym is) in
            or_from _ _ (not_within-before p.0 p.1.end key (omega arith)) (none-begun end ps key rest before)
      ] refl none

  -- the last interval that begins before this key
  record IsLastBegun (start : ℕ) (ps : List (Interval P)) (end : ℕ) (last : Interval P) : Type 0 where
    from_start : start ≤ last.0
    some : last.0 < last.1.end
    before : last.0 < end
    there : (key : ℕ) → is_within last.0 last.1.end key ≡ true → has_key ps key ≡ true
    none : (key : ℕ) → key < end → last.1.end ≤ key → has_key ps key ≡ false

  last-here : (start : ℕ) (p : Interval P) (ps : List (Interval P)) (end : ℕ) (last : Interval P) → are_apart start (p ∷ ps) ≡ true → p.0 < end
      → p ≡ last → begun_before end ps ≡ [] → IsLastBegun start (p ∷ ps) end last
  last-here start p ps end last apart before is rest =
      let Q : Interval P → Type 0 = λ q. IsLastBegun start (p ∷ ps) end q in
      subst Q is record {
        from_start = apart-start start p ps apart;
        some = apart-some start p ps apart;
        before = before;
        there = λ key within. or_left _ _ within;
        none = λ key early past. or_from _ _ (not_within-after p.0 p.1.end key past) (none-begun end ps key rest early);
      }

  last-later : (start : ℕ) (p : Interval P) (ps : List (Interval P)) (end : ℕ) (last : Interval P) → are_apart start (p ∷ ps) ≡ true
      → IsLastBegun p.1.end ps end last → IsLastBegun start (p ∷ ps) end last
  last-later start p ps end last apart later =
      let first = apart-start start p ps apart in
      let some = apart-some start p ps apart in
      let from_start = later.from_start in
      let last_some = later.some in
      record {
        from_start = omega arith;
        some = later.some;
        before = later.before;
        there = λ key within. or_right _ _ (later.there key within);
        none = λ key early past. or_from _ _ (not_within-after p.0 p.1.end key (omega arith)) (later.none key early past);
      }

  last-begun : (start : ℕ) (ps : List (Interval P)) (end : ℕ) (front : List (Interval P)) (last : Interval P) → are_apart start ps ≡ true
      → begun_before end ps ≡ front ++ last ∷ [] → IsLastBegun start ps end last
  last-begun start [] end [] last apart is = absurd (cc)
  last-begun start [] end (f ∷ front) last apart is = absurd (cc)
  last-begun start (p ∷ ps) end front last apart is =
      elim (is_before end p.0) as (λ v. v ≡ is_before end p.0 → cond v (p ∷ begun_before end ps) (begun_before end ps) ≡ front ++ last ∷ []
      → IsLastBegun start (p ∷ ps) end last) [
        | true ↦ λ test all. last-cases start p ps end front last apart (before-true end p.0 (sym test)) all
            (λ rest_front rest. last-begun p.1.end ps end rest_front last (apart-rest start p ps apart) rest)
        | false ↦ λ test all. last-later start p ps end last apart (last-begun p.1.end ps end front last (apart-rest start p ps apart) all)
      ] refl is
    where
      last-cases : (start : ℕ) (p : Interval P) (ps : List (Interval P)) (end : ℕ) (front : List (Interval P)) (last : Interval P)
          → are_apart start (p ∷ ps) ≡ true
          → p.0 < end → p ∷ begun_before end ps ≡ front ++ last ∷ []
          → ((rest_front : List (Interval P)) → begun_before end ps ≡ rest_front ++ last ∷ [] → IsLastBegun p.1.end ps end last)
          → IsLastBegun start (p ∷ ps) end last
      last-cases start p ps end [] last apart before all later = last-here start p ps end last apart before (cc) (cc)
      last-cases start p ps end (f ∷ front) last apart before all later = last-later start p ps end last apart (later front (cc))

  not_gone : (b : Buffered P) (first key : ℕ) → b.next ≤ first → first ≤ key → nat_lt key b.next ≡ false
  not_gone b first key after from_first = le-ltb key b.next (omega arith)

  -- where no interval begins before `end`, no key is taken
  pub fresh-none : (b : Buffered P) (first end : ℕ) → b.next ≤ first → entries_between nat_cmp Unbounded (Excluded end) b.held ≡ [] → IsFresh b first end
  fresh-none b first end after none key within =
      or_from _ _ (not_gone b first key after (within-first first end key within)) (none-begun end b.held key none (within-end first end key within))

  -- where the last of them ends at or before `first`, neither
  pub fresh-last : (b : Buffered P) (first end : ℕ) (front : List (Interval P)) (last : Interval P) → are_apart b.next b.held ≡ true → b.next ≤ first
      → entries_between nat_cmp Unbounded (Excluded end) b.held ≡ front ++ last ∷ [] → last.1.end ≤ first → IsFresh b first end
  fresh-last b first end front last apart after is past key within =
      let here = last-begun b.next b.held end front last apart is in
      let from_first = within-first first end key within in
      or_from _ _ (not_gone b first key after from_first) (here.none key (within-end first end key within) (omega arith))

  -- where it ends after `first`, one is
  pub overlaps-last : (b : Buffered P) (first end : ℕ) (front : List (Interval P)) (last : Interval P) → are_apart b.next b.held ≡ true → first < end
      → entries_between nat_cmp Unbounded (Excluded end) b.held ≡ front ++ last ∷ [] → first < last.1.end → Overlaps b first end
  overlaps-last b first end front last apart some is overlaps =
      let here = last-begun b.next b.held end front last apart is in
      let last_some = here.some in
      let last_before = here.before in
      elim (cases_lt first last.0) [
        | inl w ↦ (
          last.0,
          within-from first end last.0 (omega arith) here.before,
          or_right _ _
              (here.there last.0 (within-from last.0 last.1.end last.0 (omega arith) here.some)),
        )
        | inr w ↦ (first, within-from first end first (omega arith) some, or_right _ _ (here.there first (within-from last.0 last.1.end first w overlaps)))
      ]
