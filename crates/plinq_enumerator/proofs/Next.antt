-- The records that the enumerator writes are those of the answers that it gives.
use Rattle.std.proofs.Common.{◌≡◌, ℕ, ◌+◌, ◌-◌, true, false, cond, ltb, List, [], ◌∷◌, ◌++◌, length, Option, Some, None, sym, ap, ◌∙◌, add-zero}
use Rattle.plinq_source.specs.Trace.{Trace, items_from}
use Rattle.plinq_keyed.specs.declared.tail.Tail.{Tail}
use Rattle.plinq_keyed.specs.declared.tail.Tail.TheVariants.{Closed}
use Rattle.plinq_keyed.specs.declared.event.Event.{Event}
use Rattle.plinq_keyed.specs.declared.event.Event.TheVariants.{Ask, Close}
use Rattle.plinq_keyed.specs.declared.record.Record.{Record}
use Rattle.plinq_keyed.specs.History.{Place, start, reply, no_items, next_items, next_place, place_after, request_record, is_legal_history}
use Rattle.plinq_keyed.specs.History.{next_record, tickets_below, ending_tail}
use Rattle.plinq_keyed.proofs.Legal.{place_after-append, IsLegalHistory-append}

abbrev pub record_of : ℕ → Event → ℕ → ℕ → Option Tail → Record
record_of ticket e first count tail = record { ticket = ticket; asked = e; first = first; count = count; tail = tail }

-- a history that has grown by the next record: where it stands, and that it is legal
pub record Grown {T : Type 0} (t : Trace T) (h grown : List Record) (e : Event) : Type 0 where
  pub place : place_after t start grown ≡ next_place t (place_after t start h) e
  pub legal : is_legal_history t grown ≡ true

pub Grown-from_next : {T : Type 0} (t : Trace T) (h grown : List Record) (k : ℕ) (e : Event) (r : Record) → grown ≡ h ++ r ∷ []
    → r ≡ next_record t h k e → is_legal_history t h ≡ true → tickets_below k h ≡ true → Grown t h grown e
Grown-from_next t h grown k e r added next legal below =
    let whole : grown ≡ h ++ next_record t h k e ∷ [] = added ∙ ap (λ x. h ++ x ∷ []) next in
    record {
      place = ap (place_after t start) whole ∙ place_after-append t start h (next_record t h k e);
      legal = ap (is_legal_history t) whole ∙ IsLegalHistory-append t h k e legal below;
    }

-- the record of a Close at place g
pub next_record-close : {T : Type 0} (t : Trace T) (h : List Record) (k g : ℕ) → (place_after t start h).given ≡ g
    → record_of k Close g 0 (Some Closed) ≡ next_record t h k Close
next_record-close t h k g at = ap (λ f. record_of k Close f 0 (Some Closed)) (sym at)

closed_reply : {T : Type 0} (t : Trace T) (p : Place) (n : ℕ) → p.closed ≡ true → reply t p (Ask n) ≡ no_items p.given
closed_reply t p n shut = ap (λ c. cond c (no_items p.given) (next_items t p.given n)) shut

open_reply : {T : Type 0} (t : Trace T) (p : Place) (n : ℕ) → p.closed ≡ false → reply t p (Ask n) ≡ next_items t p.given n
open_reply t p n shut = ap (λ c. cond c (no_items p.given) (next_items t p.given n)) shut

-- the record of an Ask that comes after a Close, at place g
pub next_record-closed : {T : Type 0} (t : Trace T) (h : List Record) (k n g : ℕ) → (place_after t start h).given ≡ g
    → (place_after t start h).closed ≡ true → record_of k (Ask n) g 0 (Some Closed) ≡ next_record t h k (Ask n)
next_record-closed t h k n g at shut =
    ap (λ f. record_of k (Ask n) f 0 (Some Closed)) (sym at)
    ∙ ap (request_record k (Ask n)) (sym (closed_reply t (place_after t start h) n shut))

-- the record of an Ask at place g, where nothing is closed
pub next_record-open : {T : Type 0} (t : Trace T) (h : List Record) (k n g m : ℕ) (tail : Option Tail) → (place_after t start h).given ≡ g
    → (place_after t start h).closed ≡ false →
    m ≡ length (items_from t g n) → tail ≡ cond (ltb (length t.items - g) n) (ending_tail t.ending) None
    → record_of k (Ask n) g m tail ≡ next_record t h k (Ask n)
next_record-open t h k n g m tail at shut counted tailed =
    ap (λ c. record_of k (Ask n) g c tail) counted
    ∙ ap (λ o. record_of k (Ask n) g (length (items_from t g n)) o) tailed
    ∙ ap (λ f. request_record k (Ask n) (next_items t f n)) (sym at)
    ∙ ap (request_record k (Ask n)) (sym (open_reply t (place_after t start h) n shut))

pub next_place-closed : {T : Type 0} (t : Trace T) (p : Place) (n : ℕ) → p.closed ≡ true → next_place t p (Ask n) ≡ p
next_place-closed t p n shut =
    let none : p.given + length (reply t p (Ask n)).items ≡ p.given = ap (λ a. p.given + length a.items) (closed_reply t p n shut) ∙ add-zero p.given in
    ap (λ (g : ℕ). let q : Place = record { given = g; closed = p.closed } in q) none

pub next_place-open : {T : Type 0} (t : Trace T) (p : Place) (n : ℕ) → p.closed ≡ false
    → (next_place t p (Ask n)).given ≡ p.given + length (items_from t p.given n)
next_place-open t p n shut = ap (λ a. p.given + length a.items) (open_reply t p n shut)
