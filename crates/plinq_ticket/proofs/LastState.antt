-- What is known of a lock that is taken apart.
use Rattle.std.proofs.Common.{◌≡◌, ℕ, ◌-◌, ◌^◌, ◌<◌, ◌≤◌, min, List, [], ◌∷◌, set, length, Option, Some, None, refl, sym, ap, subst, ◌∙◌, arith, inl, inr}
use mathlib.Core.Option.{some, some-injective}
use mathlib.Core.Option as maybe
use lib.ListN.{get_elem?}
use Rattle.atomic_table.specs.Table.{Final, Seen}
use Rattle.plinq_source.specs.Trace.{Trace}
use Rattle.plinq_keyed.specs.declared.record.Record.{Record}
use Rattle.plinq_keyed.specs.History.{IsLegalHistory}
use Rattle.plinq_ticket.specs.declared.phase.Phase.{Phase}
use Rattle.plinq_ticket.specs.declared.phase.Phase.TheVariants.{Idle}
use Rattle.plinq_ticket.specs.declared.view.View.{View}
use Rattle.plinq_ticket.specs.Weights.{total}
use Rattle.plinq_ticket.specs.TwoWords.{OfTwoWords}
use Rattle.plinq_ticket.specs.Shares.{in_ticket_order, Contains}
use Rattle.plinq_ticket.specs.Lawful.{standing_of, origin_in, history_of, inside_of, Knows, Stands, Lawful}
use Rattle.plinq_ticket.specs.inner.Steps.{cut_view}
use Rattle.plinq_ticket.proofs.Weights.{total-set, total-at, total-ones}
use Rattle.plinq_ticket.proofs.Turns.{inside-open}
use Rattle.plinq_ticket.proofs.Ordered.{in_ticket_order-same}
use Rattle.plinq_ticket.proofs.Histories.{rises-legal, total-history_of}

-- what each pass's records weigh is nothing where there are none
total-empty : {T : Type 0} (f : Record → ℕ) (views : List (View T)) → total (λ v. total (λ _. 1) v.share) views ≡ 0 → total (λ v. total f v.share) views ≡ 0
total-empty f [] e = refl
total-empty f (v ∷ views) e =
    let none = empty v.share (omega arith) in
    let rest = total-empty f views (omega arith) in
    omega arith
  where
    empty : (xs : List Record) → total (λ _. 1) xs ≡ 0 → total f xs ≡ 0
    empty [] h = refl
    empty (x ∷ xs) h = absurd (omega arith)

-- a share has at most as many records as its history
pub count-least : (share h : List Record) → Contains h share → length share ≤ length h
count-least share h contains = let fewer = contains (λ _. 1) in let own = total-ones share in let all = total-ones h in omega arith

-- a count that stops at the greatest number is exact where the history has fewer records
pub count-exact : (records : ℕ) (share h : List Record) → Contains h share → length h < 2 ^ 64 → records ≡ min (length share) (2 ^ 64 - 1)
    → records ≡ length share
count-exact records share h contains small count =
    let fewer = count-least share h contains in
    omega arith

module _ {T : Type 0} where
  -- a history has the records of each pass
  pub contains-share : (views : List (View T)) (i : ℕ) (v : View T) → get_elem? views i ≡ some v → Contains (history_of views) v.share
  contains-share views i v at f = let own = total-at (λ u. total f u.share) views i v at in let whole = total-history_of f views in omega arith

  -- a pass with as many records as the history has all of them
  pub history_of-whole : (t : Trace T) (views : List (View T)) (i : ℕ) (v : View T) → IsLegalHistory t (history_of views) → get_elem? views i ≡ some v
      → length v.share ≡ length (history_of views) → history_of views ≡ in_ticket_order v.share
  history_of-whole t views i v legal at all =
      sym (in_ticket_order-same v.share (history_of views) 0 (rises-legal t (history_of views) legal) (λ f.
      let others = set views i (cut_view v) in
      let moved = total-set (λ u. total f u.share) views i v (cut_view v) at in
      let whole = total-history_of f views in
      let counted = total-set (λ u. total (λ _. 1) u.share) views i v (cut_view v) at in
      let count = total-history_of (λ _. 1) views in
      let own = total-ones v.share in
      let every = total-ones (history_of views) in
      let none = total-empty f others (omega arith) in
      omega arith))

  module _ {V : Type 0} (origin : V → Trace T) (history : V → List Record) where
    -- the value is in the slot, with that trace and history
    abbrev pub IsHome : Trace T → List Record → Option V → Type 0
    IsHome t h (Some value) = (origin value ≡ t) × (history value ≡ h)
    IsHome t h None = ⊥

    -- the state in which a lock was taken apart, by its words and its slot
    pub record Last (id : ℕ) (v : View T) (drawn served : ℕ) (slot : Option V) : Type 0 where
      pub homes : List (maybe.Option (Option V))
      pub views : List (View T)
      pub lawful : Lawful origin history (origin_in v) drawn served homes views
      pub seat : get_elem? views id ≡ some v
      pub home : served ≡ drawn → IsHome (origin_in v) (history_of views) slot

    -- a pass with those records, beside a value that is home with so many: its count is exact, and no more than all
    pub record Counted (v : View T) (value : V) (records : ℕ) (views : List (View T)) : Type 0 where
      pub origin_is : origin value ≡ origin_in v
      pub history_is : history value ≡ history_of views
      pub contains : Contains (history_of views) v.share
      pub exact : records ≡ length v.share
      pub fewer : length v.share ≤ length (history_of views)

    pub counted-from_last : (id : ℕ) (v : View T) (drawn served : ℕ) (slot : Option V) (value : V) (records : ℕ) (l : Last id v drawn served slot)
        → served ≡ drawn → slot ≡ Some value
        → length (history value) < 2 ^ 64 → records ≡ min (length v.share) (2 ^ 64 - 1) → Counted v value records l.views
    counted-from_last id v drawn served slot value records l all is small count =
        let home = subst (IsHome (origin_in v) (history_of l.views)) is (l.home all) in
        let contains = contains-share l.views id v l.seat in
        let same : length (history value) ≡ length (history_of l.views) = ap length home.1 in
        record {
          origin_is = home.0;
          history_is = home.1;
          contains = contains;
          exact = count-exact records v.share (history_of l.views) contains (omega arith) count;
          fewer = count-least v.share (history_of l.views) contains;
        }

    pub last-from_final : (t : Trace T) (id : ℕ) (v : View T) (ws : List ℕ) (xs : List (Option V)) (drawn served : ℕ) (slot : Option V)
        → v.standing.phase ≡ Idle
        → Final (Seen (OfTwoWords (Lawful origin history t)) id v) ws xs → get_elem? ws 0 ≡ some drawn → get_elem? ws 1 ≡ some served
        → get_elem? xs 0 ≡ some slot
        → Last id v drawn served slot
    last-from_final t id v ws xs drawn served slot idle final at0 at1 at_slot =
        let s = final.0 in
        let kept = final.1.0 in
        let at = final.1.1 in
        let words : ws ≡ kept.next ∷ kept.serving ∷ [] = sym final.2 ∙ kept.words in
        let e0 : kept.next ≡ drawn = some-injective _ _ (sym (ap (λ l. get_elem? l 0) words) ∙ at0) in
        let e1 : kept.serving ≡ served = some-injective _ _ (sym (ap (λ l. get_elem? l 1) words) ∙ at1) in
        let P : Phase → Type 0 = Knows t (history_of s.views) v in
        let is : origin_in v ≡ t = subst P idle (kept.fact.knows id v at) in
        let L : Trace T × ℕ × ℕ → Type 0 = λ x. Lawful origin history x.0 x.1 x.2 s.homes s.views in
        record {
          homes = s.homes;
          views = s.views;
          lawful = subst L (λ k. (sym is k, e0 k, e1 k)) kept.fact;
          seat = at;
          home = λ all. home s.homes (inside_of s.views) (history_of s.views) kept.fact.stands is final.4
              (λ some_in. let more = inside-open standing_of kept.next kept.serving s.views kept.fact.turns some_in in absurd (omega arith));
        }
      where
        home : (homes : List (maybe.Option (Option V))) (inside : ℕ) (h : List Record) → Stands origin history t h homes inside → origin_in v ≡ t
            → ((k : ℕ) (y : Option V) → get_elem? homes k ≡ some (some y) → get_elem? xs k ≡ some y) → (1 ≤ inside → ⊥) → IsHome (origin_in v) h slot
        home homes inside h (inl there) is found none_in =
            let here = found 0 (Some there.0) (ap (λ l. get_elem? l 0) there.1) in
            let e : slot ≡ Some there.0 = some-injective _ _ (sym at_slot ∙ here) in
            subst (IsHome (origin_in v) h) (sym e) (there.2 ∙ sym is, there.3)
        home homes inside h (inr out) is found none_in = absurd (none_in (omega (arith, out.1)))
