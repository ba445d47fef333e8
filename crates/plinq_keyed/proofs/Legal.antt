-- How a history grows by a record, what it then hands out, and that its items don't matter.
use Rattle.std.proofs.Common.{◌≡◌, ℕ, suc, ◌+◌, ◌-◌, ◌<◌, ◌≤◌, ◌==◌, min, true, false, ◌&&◌, cond, ltb, leb, List, [], ◌∷◌, ◌++◌, length, take, drop}
use Rattle.std.proofs.Common.{map, Option, Some, None, refl, sym, ap, ◌∙◌, arith, append_assoc, add-zero, length-drop}
use Rattle.std.proofs.Math.Bool.{and_assoc, and-true}
use Rattle.std.proofs.lemmas.Bool.{and_parts, and_from, ltb-true, lt-ltb, le-leb, eqb-true, eq-eqb}
use Rattle.std.proofs.lemmas.List.{length-take, length-take-le, length-replicate, append-nil, map-append}
use Rattle.std.proofs.Math.Seq.{take-add}
use Rattle.plinq_source.specs.Trace.{Trace, items_from}
use Rattle.plinq_keyed.specs.declared.tail.Tail.{Tail}
use Rattle.plinq_keyed.specs.declared.tail.Tail.TheVariants.{Ended, Refused, Closed}
use Rattle.plinq_keyed.specs.declared.event.Event.{Event}
use Rattle.plinq_keyed.specs.declared.event.Event.TheVariants.{Ask, Close}
use Rattle.plinq_keyed.specs.declared.record.Record.{Record}
use Rattle.plinq_keyed.specs.Keys.{keyed_from, rises_from, rises}
use Rattle.plinq_keyed.specs.History.{Place, start, Reply, reply, no_items, next_items, next_place, place_after, request_record, same_way, same_tail}
use Rattle.plinq_keyed.specs.History.{tells, is_run, is_legal_history, IsLegalHistory, next_record, with_next, tickets_below, handed_out, IsPrefix}
use Rattle.plinq_keyed.specs.History.{some_source, ending_tail, record_items}

pub place_after-append : {T : Type 0} (t : Trace T) (p : Place) (h : List Record) (r : Record)
    → place_after t p (h ++ r ∷ []) ≡ next_place t (place_after t p h) r.asked
place_after-append t p [] r = refl
place_after-append t p (x ∷ h) r = place_after-append t (next_place t p x.asked) h r

pub is_run-append : {T : Type 0} (t : Trace T) (p : Place) (h : List Record) (r : Record)
    → is_run t p (h ++ r ∷ []) ≡ (is_run t p h && tells r (reply t (place_after t p h) r.asked))
is_run-append t p [] r = and-true (tells r (reply t p r.asked))
is_run-append t p (x ∷ h) r =
    ap (λ b. tells x (reply t p x.asked) && b) (is_run-append t (next_place t p x.asked) h r)
    ∙ sym (and_assoc (tells x (reply t p x.asked)) _ _)

same_tail-refl : (a : Option Tail) → same_tail a a ≡ true
same_tail-refl None = refl
same_tail-refl (Some Ended) = refl
same_tail-refl (Some (Refused c)) = eq-eqb c c refl
same_tail-refl (Some Closed) = refl

same_way-true : (a b : Tail) → same_way a b ≡ true → a ≡ b
same_way-true Ended Ended e = refl
same_way-true Ended (Refused d) e = cc
same_way-true Ended Closed e = cc
same_way-true (Refused c) Ended e = cc
same_way-true (Refused c) (Refused d) e = ap Refused (eqb-true c d e)
same_way-true (Refused c) Closed e = cc
same_way-true Closed Ended e = cc
same_way-true Closed (Refused d) e = cc
same_way-true Closed Closed e = refl

same_tail-true : (a b : Option Tail) → same_tail a b ≡ true → a ≡ b
same_tail-true None None e = refl
same_tail-true None (Some b) e = cc
same_tail-true (Some a) None e = cc
same_tail-true (Some a) (Some b) e = ap Some (same_way-true a b e)

tells-request_record : {T : Type 0} (k : ℕ) (e : Event) (a : Reply T) → tells (request_record k e a) a ≡ true
tells-request_record k e a =
    and_from _ _ (and_from _ _ (eq-eqb a.first a.first refl) (eq-eqb (length a.items) (length a.items) refl)) (same_tail-refl a.tail)

-- after numbers that rise, and are below it, a number rises too
rises_from-append : (least : ℕ) (ks : List Record) (k : ℕ) → least ≤ k → rises_from least (map (λ r. r.ticket) ks) ≡ true → tickets_below k ks ≡ true
    → rises_from least (map (λ r. r.ticket) ks ++ k ∷ []) ≡ true
rises_from-append least [] k h e f = and_from _ _ (le-leb least k h) refl
rises_from-append least (x ∷ ks) k h e f =
    let e' = and_parts (leb least x.ticket) _ e in
    let f' = and_parts (ltb x.ticket k) _ f in
    let below = ltb-true x.ticket k f'.0 in
    and_from _ _ e'.0 (rises_from-append (x.ticket + 1) ks k (omega arith) e'.1 f'.1)

-- a legal history stays legal with the record of one more request, under a ticket above all
pub IsLegalHistory-append : {T : Type 0} (t : Trace T) (h : List Record) (k : ℕ) (e : Event) → IsLegalHistory t h → tickets_below k h ≡ true
    → IsLegalHistory t (h ++ next_record t h k e ∷ [])
IsLegalHistory-append t h k e legal below =
    let r = next_record t h k e in
    let parts = and_parts (is_run t start h) _ legal in
    and_from _ _
    (is_run-append t start h r ∙ and_from _ _ parts.0 (tells-request_record k e (reply t (place_after t start h) e)))
    (ap rises (map-append (λ r. r.ticket) h (r ∷ [])) ∙ rises_from-append 0 h k (omega arith) parts.1 below)

pub tickets_below-append : (k : ℕ) (h : List Record) (r : Record) → tickets_below k (h ++ r ∷ []) ≡ (tickets_below k h && ltb r.ticket k)
tickets_below-append k [] r = and-true (ltb r.ticket k)
tickets_below-append k (x ∷ h) r = ap (λ b. ltb x.ticket k && b) (tickets_below-append k h r) ∙ sym (and_assoc (ltb x.ticket k) _ _)

pub tickets_below-less : (k l : ℕ) (h : List Record) → k ≤ l → tickets_below k h ≡ true → tickets_below l h ≡ true
tickets_below-less k l [] few below = refl
tickets_below-less k l (r ∷ h) few below =
    let p = and_parts (ltb r.ticket k) _ below in
    let less : r.ticket < k = ltb-true r.ticket k p.0 in
    and_from _ _ (lt-ltb r.ticket l (omega arith)) (tickets_below-less k l h few p.1)

-- what a record says: the answer's first, count and tail
pub record Told {T : Type 0} (r : Record) (a : Reply T) : Type 0 where
  pub first : r.first ≡ a.first
  pub count : r.count ≡ length a.items
  pub tail : r.tail ≡ a.tail

pub Told-from_tells : {T : Type 0} (r : Record) (a : Reply T) → tells r a ≡ true → Told r a
Told-from_tells r a e =
    let p = and_parts _ (same_tail r.tail a.tail) e in
    let q = and_parts (r.first == a.first) _ p.0 in
    record { first = eqb-true _ _ q.0; count = eqb-true _ _ q.1; tail = same_tail-true _ _ p.1 }

pub reply-first : {T : Type 0} (t : Trace T) (p : Place) (e : Event) → (reply t p e).first ≡ p.given
reply-first t p (Ask n) = elim p.closed as (λ c. (cond c (no_items p.given) (next_items t p.given n)).first ≡ p.given) [ true ↦ refl | false ↦ refl ]
reply-first t p Close = refl

pub next_place-given : {T : Type 0} (t : Trace T) (p : Place) (e : Event) → (next_place t p e).given ≡ p.given + length (reply t p e).items
next_place-given t p (Ask n) = refl
next_place-given t p Close = sym (add-zero p.given)

-- no answer has more items than are left
pub length-reply : {T : Type 0} (t : Trace T) (p : Place) (e : Event) → length (reply t p e).items ≤ length t.items - p.given
length-reply t p (Ask n) =
    elim p.closed as (λ c. length (cond c (no_items p.given) (next_items t p.given n)).items ≤ length t.items - p.given) [
      | true ↦ omega arith
      | false ↦ omega (arith, length-take n (drop p.given t.items), length-drop p.given t.items)
    ]
length-reply t p Close = omega arith

pub keyed_from-append : {T : Type 0} (k : ℕ) (xs ys : List T) → keyed_from k (xs ++ ys) ≡ keyed_from k xs ++ keyed_from (k + length xs) ys
keyed_from-append k [] ys = let e : k ≡ k + 0 = omega arith in ap (λ j. keyed_from j ys) e
keyed_from-append k (x ∷ xs) ys =
    let e : k + 1 + length xs ≡ k + suc (length xs) = omega arith in
    ap (λ zs. record { key = k; value = x } ∷ zs) (keyed_from-append (k + 1) xs ys ∙ ap (λ j. keyed_from (k + 1) xs ++ keyed_from j ys) e)

-- the first g elements, and m from place g on, are the first g + m
keyed_from-take : {T : Type 0} (xs : List T) (g m : ℕ) → g ≤ length xs
    → keyed_from 0 (take (g + m) xs) ≡ keyed_from 0 (take g xs) ++ keyed_from g (take m (drop g xs))
keyed_from-take xs g m within =
    let e : 0 + length (take g xs) ≡ g = omega (arith, length-take-le g xs within) in
    ap (keyed_from 0) (take-add g m xs)
    ∙ keyed_from-append 0 (take g xs) (take m (drop g xs))
    ∙ ap (λ j. keyed_from 0 (take g xs) ++ keyed_from j (take m (drop g xs))) e

-- from a place on, a run hands out what stands between that place and the one after it
handed_out-run : {T : Type 0} (t : Trace T) (p : Place) (h : List Record) → p.given ≤ length t.items → is_run t p h ≡ true →
    (keyed_from 0 (take p.given t.items) ++ handed_out t h ≡ keyed_from 0 (take (place_after t p h).given t.items))
    × ((place_after t p h).given ≤ length t.items)
handed_out-run t p [] within run = (append-nil _, within)
handed_out-run t p (r ∷ h) within run =
    let parts = and_parts (tells r (reply t p r.asked)) _ run in
    let told = Told-from_tells r (reply t p r.asked) parts.0 in
    let m = length (reply t p r.asked).items in
    let few : m ≤ length t.items - p.given = length-reply t p r.asked in
    let moved : (next_place t p r.asked).given ≡ p.given + m = next_place-given t p r.asked in
    let rest = handed_out-run t (next_place t p r.asked) h (omega arith) parts.1 in
    let first : r.first ≡ p.given = told.first ∙ reply-first t p r.asked in
    let here : keyed_from r.first (record_items t r) ≡ keyed_from p.given (items_from t p.given m) = cc (told.count) in
    let joined = keyed_from-take t.items p.given m within in (
      sym (append_assoc (keyed_from 0 (take p.given t.items)) (keyed_from r.first (record_items t r)) (handed_out t h))
          ∙ ap (λ xs. (keyed_from 0 (take p.given t.items) ++ xs) ++ handed_out t h) here
          ∙ ap (λ xs. xs ++ handed_out t h) (sym joined)
          ∙ ap (λ g. keyed_from 0 (take g t.items) ++ handed_out t h) (sym moved)
          ∙ rest.0,
      rest.1,
    )

pub IsPrefix-from_legal : {T : Type 0} (t : Trace T) (h : List Record) → IsLegalHistory t h → IsPrefix t h
IsPrefix-from_legal t h legal =
    let run = and_parts (is_run t start h) _ legal in
    let done = handed_out-run t start h (omega arith) run.0 in
    record { prefix = done.0; within = done.1 }

length-reply-alike : {T U : Type 0} (t : Trace T) (u : Trace U) (p : Place) (e : Event) → length t.items ≡ length u.items
    → length (reply t p e).items ≡ length (reply u p e).items
length-reply-alike t u p (Ask n) l =
    elim p.closed as (λ c. length (cond c (no_items p.given) (next_items t p.given n)).items
    ≡ length (cond c (no_items p.given) (next_items u p.given n)).items) [
      | true ↦ refl
      | false ↦ length-take n (drop p.given t.items)
          ∙ ap (min n) (length-drop p.given t.items ∙ ap (λ k. k - p.given) l ∙ sym (length-drop p.given u.items))
          ∙ sym (length-take n (drop p.given u.items))
    ]
length-reply-alike t u p Close l = refl

reply-tail-alike : {T U : Type 0} (t : Trace T) (u : Trace U) (p : Place) (e : Event) → length t.items ≡ length u.items → t.ending ≡ u.ending
    → (reply t p e).tail ≡ (reply u p e).tail
reply-tail-alike t u p (Ask n) l e =
    elim p.closed as (λ c. (cond c (no_items p.given) (next_items t p.given n)).tail ≡ (cond c (no_items p.given) (next_items u p.given n)).tail) [
      | true ↦ refl
      | false ↦ ap (λ k. cond (ltb (k - p.given) n) (ending_tail t.ending) None) l ∙ ap (λ o. cond (ltb (length u.items - p.given) n) (ending_tail o) None) e
    ]
reply-tail-alike t u p Close l e = refl

next_place-alike : {T U : Type 0} (t : Trace T) (u : Trace U) (p : Place) (e : Event) → length t.items ≡ length u.items → next_place t p e ≡ next_place u p e
next_place-alike t u p (Ask n) l = ap (λ (m : ℕ). let q : Place = record { given = p.given + m; closed = p.closed } in q) (length-reply-alike t u p (Ask n) l)
next_place-alike t u p Close l = refl

tells-alike : {T U : Type 0} (r : Record) (a : Reply T) (b : Reply U) → a.first ≡ b.first → length a.items ≡ length b.items → a.tail ≡ b.tail
    → tells r a ≡ tells r b
tells-alike r a b f l e = cc

is_run-alike : {T U : Type 0} (t : Trace T) (u : Trace U) (p : Place) (h : List Record) → length t.items ≡ length u.items → t.ending ≡ u.ending
    → is_run t p h ≡ is_run u p h
is_run-alike t u p [] l e = refl
is_run-alike t u p (r ∷ h) l e =
    let here =
    tells-alike r (reply t p r.asked) (reply u p r.asked) (reply-first t p r.asked ∙ sym (reply-first u p r.asked)) (length-reply-alike t u p r.asked l)
    (reply-tail-alike t u p r.asked l e) in
    let rest = is_run-alike t u (next_place t p r.asked) h l e in
    let past = next_place-alike t u p r.asked l in
    ap (λ b. b && is_run t (next_place t p r.asked) h) here
    ∙ ap (λ b. tells r (reply u p r.asked) && b) (rest ∙ ap (λ q. is_run u q h) past)

-- legality looks at how many items there are and how they end, and at nothing else of them
pub is_legal_history-alike : {T U : Type 0} (t : Trace T) (u : Trace U) (h : List Record) → length t.items ≡ length u.items → t.ending ≡ u.ending
    → is_legal_history t h ≡ is_legal_history u h
is_legal_history-alike t u h l e = ap (λ b. b && rises (map (λ r. r.ticket) h)) (is_run-alike t u start h l e)

pub is_legal_history-some : {T : Type 0} (t : Trace T) (h : List Record) → is_legal_history t h ≡ is_legal_history (some_source (length t.items) t.ending) h
is_legal_history-some t h = is_legal_history-alike t (some_source (length t.items) t.ending) h (sym (length-replicate (length t.items) tt)) refl

-- tickets below k, and then one that is k, are below k + 1
pub tickets_below-next : {T : Type 0} (t : Trace T) (h : List Record) (k : ℕ) (e : Event) → tickets_below k h ≡ true
    → tickets_below (k + 1) (with_next t h k e) ≡ true
tickets_below-next t h k e below =
    tickets_below-append (k + 1) h (next_record t h k e) ∙ and_from _ _ (tickets_below-less k (k + 1) h (omega arith) below) (lt-ltb k (k + 1) (omega arith))
