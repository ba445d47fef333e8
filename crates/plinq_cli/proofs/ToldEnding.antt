-- The ending that a legal history states in which nothing was closed.
use Rattle.std.proofs.Common.{◌≡◌, ℕ, ◌+◌, ◌-◌, ◌≤◌, Bool, true, false, cond, ltb, List, [], ◌∷◌, length, Option, Some, None, refl, ap, sym, ◌∙◌, arith}
use Rattle.std.specs.List.{flat_map}
use Rattle.std.specs.Prelude.{IsSome}
use Rattle.std.proofs.lemmas.Bool.{and_parts}
use Rattle.plinq_source.specs.declared.ending.Ending.{Ending}
use Rattle.plinq_source.specs.declared.ending.Ending.TheVariants.{End, Refused, Fault}
use Rattle.plinq_source.specs.Trace.{Trace, IsSourceEnding}
use Rattle.plinq_keyed.specs.declared.event.Event.{Event}
use Rattle.plinq_keyed.specs.declared.event.Event.TheVariants.{Ask, Close}
use Rattle.plinq_keyed.specs.declared.record.Record.{Record}
use Rattle.plinq_keyed.specs.declared.tail.Tail.{Tail}
use Rattle.plinq_keyed.specs.History.{Place, start, reply, next_place, tells, is_run, IsLegalHistory, ending_tail, next_items, no_items}
use Rattle.plinq_keyed.proofs.Legal.{Told-from_tells}
use Rattle.plinq_enumerator.specs.Growing.{GrowthRule}
use Rattle.plinq_ticket.specs.Weights.{total}
use Rattle.plinq_ticket.proofs.Weights.{total-append}
use Rattle.plinq_ticket.proofs.Ordered.{total-in_ticket_order}
use Rattle.plinq_cli.specs.Rounds.{AsksUntilTail, EachUntilTail, AreShares, tail_ending, told_ending}

-- 1 for a request to close, and for an answer with a tail
abbrev closing : Event → ℕ
closing (Ask n) = 0
closing Close = 1

abbrev ending : Option Tail → ℕ
ending None = 0
ending (Some tail) = 1

ending-some : (tail : Option Tail) → IsSome tail → 1 ≤ ending tail
ending-some None some = cc
ending-some (Some tail) some = omega arith

-- a tail that the source's ending gives states that ending
tail_ending-source : (e : Option Ending) (tail : Tail) (later : Option Ending) → IsSourceEnding e → Some tail ≡ ending_tail e
    → tail_ending (Some tail) later ≡ e
tail_ending-source None tail later ends is = absurd ends
tail_ending-source (Some End) tail later ends is = ap (λ o. tail_ending o later) is
tail_ending-source (Some (Refused code)) tail later ends is = ap (λ o. tail_ending o later) is
tail_ending-source (Some (Fault code)) tail later ends is = absurd ends

-- from an open place on, the first tail is the source's
told_ending-run : {T : Type 0} (t : Trace T) (p : Place) (h : List Record) → IsSourceEnding t.ending → p.closed ≡ false → is_run t p h ≡ true
    → total (λ (r : Record). closing r.asked) h ≡ 0 → 1 ≤ total (λ (r : Record). ending r.tail) h → told_ending h ≡ t.ending
told_ending-run t p [] ends still run asks tails = absurd (omega arith)
told_ending-run {T = T} t p (r ∷ h) ends still run asks tails =
    let parts = and_parts (tells r (reply t p r.asked)) _ run in
    at_event r.asked refl (Told-from_tells r (reply t p r.asked) parts.0).tail (λ closed none some. told_ending-run t
    (next_place t p r.asked) h ends closed parts.1 none some)
  where
    at_tail : (o : Option Tail) → r.tail ≡ o → (n : ℕ) (b : Bool) → r.asked ≡ Ask n → r.tail ≡ cond b (ending_tail t.ending) None
        → ((next_place t p r.asked).closed ≡ false → total (λ (x : Record). closing x.asked) h ≡ 0 → 1 ≤ total (λ (x : Record). ending x.tail) h
        → told_ending h ≡ t.ending)
        → told_ending (r ∷ h) ≡ t.ending
    at_tail None none n b is answer rest =
        let nothing = ap ending none in
        let asked = ap closing is in
        ap (λ o. tail_ending o (told_ending h)) none ∙ rest (ap (λ (e : Event). (next_place t p e).closed) is ∙ still) (omega arith) (omega arith)
    at_tail (Some x) some n true is answer rest =
        ap (λ o. tail_ending o (told_ending h)) some ∙ tail_ending-source t.ending x (told_ending h) ends (sym some ∙ answer)
    at_tail (Some x) some n false is answer rest = let bad : Some x ≡ None = sym some ∙ answer in cc

    at_event : (e : Event) → r.asked ≡ e → r.tail ≡ (reply t p r.asked).tail
        → ((next_place t p r.asked).closed ≡ false → total (λ (x : Record). closing x.asked) h ≡ 0 → 1 ≤ total (λ (x : Record). ending x.tail) h
        → told_ending h ≡ t.ending)
        → told_ending (r ∷ h) ≡ t.ending
    at_event Close is tail rest = let one = ap closing is in absurd (omega arith)
    at_event (Ask n) is tail rest =
        at_tail r.tail refl n (ltb (length t.items - p.given) n) is
        (tail ∙ (ap (λ e. (reply t p e).tail) is ∙ ap (λ b. (cond b (no_items p.given) (next_items t p.given n)).tail) still)) rest

-- ---- shares

share-asks : (g : GrowthRule) (i : ℕ) (share : List Record) → AsksUntilTail g i share → total (λ (r : Record). closing r.asked) share ≡ 0
share-asks g i [] asks = absurd asks
share-asks g i (r ∷ []) asks = let none = ap closing asks.0 in omega arith
share-asks g i (r ∷ s ∷ rs) asks = let none = ap closing asks.0 in let rest = share-asks g (i + 1) (s ∷ rs) asks.2 in omega arith

share-tails : (g : GrowthRule) (i : ℕ) (share : List Record) → AsksUntilTail g i share → 1 ≤ total (λ (r : Record). ending r.tail) share
share-tails g i [] asks = absurd asks
share-tails g i (r ∷ []) asks = let one = ending-some r.tail asks.1 in omega arith
share-tails g i (r ∷ s ∷ rs) asks = let rest = share-tails g (i + 1) (s ∷ rs) asks.2 in omega arith

abbrev joined : List (List Record) → List Record
joined = flat_map (λ share. share)

shares-asks : (g : GrowthRule) (shares : List (List Record)) → EachUntilTail g shares → total (λ (r : Record). closing r.asked) (joined shares) ≡ 0
shares-asks g [] all = refl
shares-asks g (share ∷ shares) all =
    let here = share-asks g 0 share all.0 in
    let rest = shares-asks g shares all.1 in
    let both = total-append (λ (r : Record). closing r.asked) share (joined shares) in
    omega arith

shares-tails : (g : GrowthRule) (shares : List (List Record)) → 1 ≤ length shares → EachUntilTail g shares
    → 1 ≤ total (λ (r : Record). ending r.tail) (joined shares)
shares-tails g [] some all = absurd (omega arith)
shares-tails g (share ∷ shares) some all =
    let here = share-tails g 0 share all.0 in
    let both = total-append (λ (r : Record). ending r.tail) share (joined shares) in
    omega arith

-- what partitions have left that took until they had a tail says how the source ends
pub told_ending-shares : {T : Type 0} (n : ℕ) (g : GrowthRule) (t : Trace T) (h : List Record) → 1 ≤ n → IsSourceEnding t.ending → AreShares n g h
    → IsLegalHistory t h → told_ending h ≡ t.ending
told_ending-shares n g t h some ends left legal =
    let count = left.count in
    let asks : total (λ (r : Record). closing r.asked) h ≡ 0 =
    ap (total (λ (r : Record). closing r.asked)) left.history
    ∙ (total-in_ticket_order (λ r. closing r.asked) (joined left.shares) ∙ shares-asks g left.shares left.each) in
    let weighs : total (λ (r : Record). ending r.tail) h ≡ total (λ (r : Record). ending r.tail) (joined left.shares) =
    ap (total (λ (r : Record). ending r.tail)) left.history ∙ total-in_ticket_order (λ r. ending r.tail) (joined left.shares) in
    let tails = shares-tails g left.shares (omega arith) left.each in
    told_ending-run t start h ends refl (and_parts (is_run t start h) _ legal).0 asks (omega arith)
