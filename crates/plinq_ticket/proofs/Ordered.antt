-- Records in the order of their tickets are a function of what they weigh.
use Rattle.std.proofs.Common.{◌≡◌, ℕ, suc, ◌+◌, ◌<◌, ◌≤◌, Bool, true, false, ◌&&◌, cond, ltb, leb, List, [], ◌∷◌, ◌++◌, map, Option, Some, None, refl}
use Rattle.std.proofs.Common.{ap, ◌∙◌, arith, inl, inr}
use Rattle.std.proofs.lemmas.Bool.{and_parts, and_from, leb-true, le-leb, ltb-true, lt-ltb, cases_Bool}
use Rattle.std.proofs.lemmas.Bool.Decides.{nat_tests}
use Rattle.plinq_keyed.specs.declared.tail.Tail.{Tail}
use Rattle.plinq_keyed.specs.declared.tail.Tail.TheVariants.{Ended, Refused, Closed}
use Rattle.plinq_keyed.specs.declared.event.Event.{Event}
use Rattle.plinq_keyed.specs.declared.event.Event.TheVariants.{Ask, Close}
use Rattle.plinq_keyed.specs.declared.record.Record.{Record}
use Rattle.plinq_keyed.specs.Keys.{rises_from}
use Rattle.plinq_ticket.specs.Weights.{total}
use Rattle.plinq_ticket.specs.Shares.{placed_records, in_ticket_order, added_records}

pub added_records-append : (old new : List Record) → added_records old (old ++ new) ≡ new
added_records-append [] new = refl
added_records-append (r ∷ old) new = added_records-append old new

total-placed_records : (f : Record → ℕ) (r : Record) (xs : List Record) → total f (placed_records r xs) ≡ f r + total f xs
total-placed_records f r [] = refl
total-placed_records f r (x ∷ xs) = by (leb r.ticket x.ticket) (total-placed_records f r xs)
  where
    by : (b : Bool) → total f (placed_records r xs) ≡ f r + total f xs → total f (cond b (r ∷ x ∷ xs) (x ∷ placed_records r xs)) ≡ f r + (f x + total f xs)
    by true rest = refl
    by false rest = omega arith

pub total-in_ticket_order : (f : Record → ℕ) (xs : List Record) → total f (in_ticket_order xs) ≡ total f xs
total-in_ticket_order f [] = refl
total-in_ticket_order f (x ∷ xs) = let here = total-placed_records f x (in_ticket_order xs) in let rest = total-in_ticket_order f xs in omega arith

-- whether each ticket is at least that, and at least the one before it
climbs : ℕ → List Record → Bool
climbs least [] = true
climbs least (x ∷ xs) = leb least x.ticket && climbs x.ticket xs

climbs-placed_records : (least : ℕ) (r : Record) (xs : List Record) → least ≤ r.ticket → climbs least xs ≡ true → climbs least (placed_records r xs) ≡ true
unfolding climbs
climbs-placed_records least r [] h c = and_from _ _ (le-leb least r.ticket h) refl
climbs-placed_records least r (x ∷ xs) h c =
    by (leb r.ticket x.ticket) refl (λ below. climbs-placed_records x.ticket r xs below (and_parts (leb least x.ticket) _ c).1)
  where
    by : (b : Bool) → leb r.ticket x.ticket ≡ b → (x.ticket ≤ r.ticket → climbs x.ticket (placed_records r xs) ≡ true)
        → climbs least (cond b (r ∷ x ∷ xs) (x ∷ placed_records r xs)) ≡ true
    by true e rest = let p = and_parts (leb least x.ticket) _ c in and_from _ _ (le-leb least r.ticket h) (and_from _ _ e p.1)
    by false e rest =
        let p = and_parts (leb least x.ticket) _ c in
        let below : x.ticket ≤ r.ticket = grind (arith, nat_tests) in
        and_from _ _ p.0 (rest below)

climbs-in_ticket_order : (xs : List Record) → climbs 0 (in_ticket_order xs) ≡ true
unfolding climbs
climbs-in_ticket_order [] = refl
climbs-in_ticket_order (x ∷ xs) = climbs-placed_records 0 x (in_ticket_order xs) (omega arith) (climbs-in_ticket_order xs)

-- a weight that counts only records below a ticket
under : ℕ → (Record → ℕ) → Record → ℕ
under k f r = cond (ltb r.ticket k) (f r) 0

under-here : (k : ℕ) (f : Record → ℕ) (r : Record) → r.ticket < k → under k f r ≡ f r
unfolding under
under-here k f r h = ap (λ (b : Bool). let n : ℕ = cond b (f r) 0 in n) (lt-ltb r.ticket k h)

under-not : (k : ℕ) (f : Record → ℕ) (r : Record) → k ≤ r.ticket → under k f r ≡ 0
unfolding under
under-not k f r h = let e : ltb r.ticket k ≡ false = grind (arith, nat_tests) in ap (λ (b : Bool). let n : ℕ = cond b (f r) 0 in n) e

total-under_climbs : (k least : ℕ) (f : Record → ℕ) (xs : List Record) → k ≤ least → climbs least xs ≡ true → total (under k f) xs ≡ 0
unfolding climbs
total-under_climbs k least f [] h c = refl
total-under_climbs k least f (x ∷ xs) h c =
    let p = and_parts (leb least x.ticket) _ c in
    let a : least ≤ x.ticket = leb-true least x.ticket p.0 in
    let here = under-not k f x (omega arith) in
    let rest = total-under_climbs k x.ticket f xs (omega arith) p.1 in
    omega arith

total-under_rises : (k least : ℕ) (f : Record → ℕ) (xs : List Record) → k ≤ least → rises_from least (map (λ r. r.ticket) xs) ≡ true → total (under k f) xs ≡ 0
total-under_rises k least f [] h c = refl
total-under_rises k least f (x ∷ xs) h c =
    let p = and_parts (leb least x.ticket) _ c in
    let a : least ≤ x.ticket = leb-true least x.ticket p.0 in
    let here = under-not k f x (omega arith) in
    let rest = total-under_rises k (x.ticket + 1) f xs (omega arith) p.1 in
    omega arith

-- where no record is counted, none has a weight
total-under_none : (k : ℕ) (f : Record → ℕ) (xs : List Record) → total (under k (λ _. 1)) xs ≡ 0 → total (under k f) xs ≡ 0
total-under_none k f [] e = refl
total-under_none k f (x ∷ xs) e = by (ltb x.ticket k) refl (total-under_none k f xs)
  where
    by : (b : Bool) → ltb x.ticket k ≡ b → (total (under k (λ _. 1)) xs ≡ 0 → total (under k f) xs ≡ 0) → total (under k f) (x ∷ xs) ≡ 0
    by true h then = let t : x.ticket < k = ltb-true x.ticket k h in let one = under-here k (λ _. 1) x t in absurd (omega arith)
    by false h then =
        let t : k ≤ x.ticket = grind (arith, nat_tests) in
        let here = under-not k f x t in
        let gone = under-not k (λ _. 1) x t in
        let rest = then (omega arith) in
        omega arith

event_number : Event → ℕ
event_number (Ask n) = suc n
event_number Close = 0

event_number-same : (a b : Event) → event_number a ≡ event_number b → a ≡ b
unfolding event_number
event_number-same (Ask n) (Ask m) e = ap Ask (omega arith)
event_number-same (Ask n) Close e = absurd (omega arith)
event_number-same Close (Ask m) e = absurd (omega arith)
event_number-same Close Close e = refl

tail_number : Option Tail → ℕ
tail_number None = 0
tail_number (Some Ended) = 1
tail_number (Some Closed) = 2
tail_number (Some (Refused c)) = 3 + c

tail_number-same : (a b : Option Tail) → tail_number a ≡ tail_number b → a ≡ b
unfolding tail_number
tail_number-same None None e = refl
tail_number-same None (Some Ended) e = absurd (omega arith)
tail_number-same None (Some Closed) e = absurd (omega arith)
tail_number-same None (Some (Refused d)) e = absurd (omega arith)
tail_number-same (Some Ended) None e = absurd (omega arith)
tail_number-same (Some Ended) (Some Ended) e = refl
tail_number-same (Some Ended) (Some Closed) e = absurd (omega arith)
tail_number-same (Some Ended) (Some (Refused d)) e = absurd (omega arith)
tail_number-same (Some Closed) None e = absurd (omega arith)
tail_number-same (Some Closed) (Some Ended) e = absurd (omega arith)
tail_number-same (Some Closed) (Some Closed) e = refl
tail_number-same (Some Closed) (Some (Refused d)) e = absurd (omega arith)
tail_number-same (Some (Refused c)) None e = absurd (omega arith)
tail_number-same (Some (Refused c)) (Some Ended) e = absurd (omega arith)
tail_number-same (Some (Refused c)) (Some Closed) e = absurd (omega arith)
tail_number-same (Some (Refused c)) (Some (Refused d)) e = ap (λ n. Some (Refused n)) (omega arith)

-- records that no weight tells apart are one
same_record : (a b : Record) → ((f : Record → ℕ) → f a ≡ f b) → a ≡ b
same_record a b same =
    let e0 : a.ticket ≡ b.ticket = same (λ r. r.ticket) in
    let e1 : a.asked ≡ b.asked = event_number-same a.asked b.asked (same (λ r. event_number r.asked)) in
    let e2 : a.first ≡ b.first = same (λ r. r.first) in
    let e3 : a.count ≡ b.count = same (λ r. r.count) in
    let e4 : a.tail ≡ b.tail = tail_number-same a.tail b.tail (same (λ r. tail_number r.tail)) in
    λ i. record { ticket = e0 i; asked = e1 i; first = e2 i; count = e3 i; tail = e4 i }

-- the first of two lists of equal weights is the same
same_first : (y h : Record) (ys hs : List Record) → climbs y.ticket ys ≡ true → rises_from (h.ticket + 1) (map (λ r. r.ticket) hs) ≡ true
    → ((f : Record → ℕ) → total f (y ∷ ys) ≡ total f (h ∷ hs)) → y ≡ h
same_first y h ys hs c r same = same_record y h (λ g.
    let m : ℕ = h.ticket + 1 in
    let y_low : y.ticket ≤ h.ticket =
    elim (cases_Bool (ltb h.ticket y.ticket)) [
      | inl e ↦
          let t : h.ticket < y.ticket = ltb-true h.ticket y.ticket e in
          let w = same (under y.ticket (λ _. 1)) in
          let none = under-not y.ticket (λ _. 1) y (omega arith) in
          let rest = total-under_climbs y.ticket y.ticket (λ _. 1) ys (omega arith) c in
          let one = under-here y.ticket (λ _. 1) h t in
          absurd (omega arith)
      | inr e ↦ grind (arith, nat_tests)
    ] in
    let counts = same (under m (λ _. 1)) in
    let weighs = same (under m g) in
    let y_one = under-here m (λ _. 1) y (omega arith) in
    let h_one = under-here m (λ _. 1) h (omega arith) in
    let h_none = total-under_rises m m (λ _. 1) hs (omega arith) r in
    let y_none = total-under_none m g ys (omega arith) in
    let h_weighs = total-under_rises m m g hs (omega arith) r in
    let y_here = under-here m g y (omega arith) in
    let h_here = under-here m g h (omega arith) in
    omega arith)

same-from_weights : (ys hs : List Record) (least low : ℕ) → climbs low ys ≡ true → rises_from least (map (λ r. r.ticket) hs) ≡ true
    → ((f : Record → ℕ) → total f ys ≡ total f hs) → ys ≡ hs
unfolding climbs
same-from_weights [] [] least low c r same = refl
same-from_weights [] (h ∷ hs) least low c r same = let e = same (λ _. 1) in absurd (omega arith)
same-from_weights (y ∷ ys) [] least low c r same = let e = same (λ _. 1) in absurd (omega arith)
same-from_weights (y ∷ ys) (h ∷ hs) least low c r same =
    let c' = (and_parts (leb low y.ticket) _ c).1 in
    let r' = (and_parts (leb least h.ticket) _ r).1 in
    let first = same_first y h ys hs c' r' same in
    let rest = same-from_weights ys hs (h.ticket + 1) y.ticket c' r' (λ f. let e = same f in let e' : f y ≡ f h = ap f first in omega arith) in
    λ i. first i ∷ rest i

-- what weighs as much as records whose tickets rise is these, once it is in their order
pub in_ticket_order-same : (xs hs : List Record) (least : ℕ) → rises_from least (map (λ r. r.ticket) hs) ≡ true
    → ((f : Record → ℕ) → total f xs ≡ total f hs) → in_ticket_order xs ≡ hs
in_ticket_order-same xs hs least r same =
    same-from_weights (in_ticket_order xs) hs least 0 (climbs-in_ticket_order xs) r (λ f. total-in_ticket_order f xs ∙ same f)
