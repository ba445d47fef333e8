-- Offers of one source: what the tails of its chunks say, how their answer begins the sequential one, and that it is that where all was offered.
use Rattle.plinq_merge.proofs.MergerWords.{◌≡◌, ℕ, ◌+◌, ◌-◌, ◌<◌, ◌≤◌, List, [], ◌∷◌, length, drop, true, false, cond, nat_lt, Option, Some, None, refl, ◌==◌}
use Rattle.plinq_merge.proofs.MergerWords.{take, ◌||◌, All, Bool, IfSome, sym, ◌∙◌, ap, inl, inr, arith, length-drop, and_parts, or_from, cases_lt}
use Rattle.plinq_merge.proofs.MergerWords.{length-take-le, take-append-drop, All-nil, All-head, All-tail, All-weaker, nat_tests, or_assoc, or-false}
use Rattle.plinq_merge.proofs.MergerWords.{take-length, Ending, Trace, open_trace, followed_by, trace_of, followed_by-open_nil, followed_by-followed_by}
use Rattle.plinq_merge.proofs.MergerWords.{Meaning, Op, ChunkResult, end_of_result, told_at, Order, ByKey, seq, result_trace, batches_from, seq-followed_by}
use Rattle.plinq_merge.proofs.MergerWords.{Interval, is_within, unbroken_row, first_gap, IsRow, Merge, waiting_trace, placed_intervals, all_placed, all_told}
use Rattle.plinq_merge.proofs.MergerWords.{all_given, ending_at, merged_trace, answer, shown_batches, is_offered}
use Rattle.std.specs.List.{Contains}
use Rattle.std.specs.Option.{IsSome}
use Rattle.std.specs.Prelude.{◌^◌}
use Rattle.std.proofs.{lemmas.Bool.ltb-true, lemmas.Bool.or_left, lemmas.Bool.or_right, lemmas.Bool.false_from_ne_true, lemmas.List.length-take}
use Rattle.std.proofs.{lemmas.List.Elements.All-cons, lemmas.List.Elements.All-contains}
use Rattle.plinq_source.proofs.Followed.{followed_by-ended}
use Rattle.plinq_source.specs.declared.ending.Ending.{TheVariants.Fault}
use Rattle.plinq_reorder.specs.Intervals.{has_key, are_apart, IsFree}
use Rattle.plinq_merge.specs.Deliveries.{batches-first}
use Rattle.plinq_keyed.specs.declared.event.Event.{Event, TheVariants.Ask, TheVariants.Close}
use Rattle.plinq_keyed.specs.declared.record.Record.{Record}
use Rattle.plinq_ops.specs.{Row.IsResultOf, Row.AreOffers, Fragment.glued_trace, Fragment.glue, Tails.EndsAt}
use Rattle.plinq_ops.proofs.{Glue.glued_trace-append, Rows.row-next, Rows.glue-whole}
use Rattle.plinq_merge.proofs.{Offers.answer-open, Holds.All-placed, Holds.arrived_trace-by_key}
use Rattle.plinq_keyed.specs.History.{Place, start, ending_tail, no_items, next_items, reply, next_place, tells, is_run, IsLegalHistory}
use Rattle.plinq_keyed.proofs.Legal.{Told-from_tells, reply-first, next_place-given, length-reply}
use Rattle.plinq_reorder.proofs.Keys.{same_key, same_test, not_within-none}
use Rattle.plinq_reorder.proofs.{Gap.row-of-unbroken_row, Gap.All-unbroken_row, Gap.gap-missing, Gap.gap-most, Insert.apart-insert, Insert.has_key-insert}
use Rattle.plinq_merge.specs.Whole.{IsTrueTail, AreTrueTails, AreApart, AreWhole, AreFirstOf}

ending-told : {T : Type 0} (t : Trace T) (at : ℕ) (last : Bool) (e : Option Ending) → t.ending ≡ e → (last ≡ true → at ≡ length t.items)
    → IfSome (told_at at (cond last (ending_tail e) None)) (EndsAt t)
ending-told t at false e is here = tt
ending-told t at true None is here = tt
ending-told t at true (Some (Fault code)) is here = tt
ending-told t at true (Some e) is here = (here refl, is)

reply-told : {T : Type 0} (t : Trace T) (p : Place) (e : Event) (at : ℕ) → p.given ≤ length t.items → at ≡ p.given + length (reply t p e).items
    → IfSome (told_at at (reply t p e).tail) (EndsAt t)
reply-told t p Close at within here = tt
reply-told t p (Ask n) at within here =
    elim p.closed as (λ c. at ≡ p.given + length (cond c (no_items p.given) (next_items t p.given n)).items
    → IfSome (told_at at (cond c (no_items p.given) (next_items t p.given n)).tail) (EndsAt t)) [
      | true ↦ λ closed. tt
      | false ↦ λ next. ending-told t at (nat_lt (length t.items - p.given) n) t.ending refl (λ test.
          let few : length t.items - p.given < n = ltb-true _ _ test in
          omega (arith, next, few, within, length-take n (drop p.given t.items), length-drop p.given t.items))
    ] here

module _ {L T : Type 0} (meaning : L → Meaning T) (worker : List (Op L)) (t : Trace T) where
  -- the tail of a record's result is so
  abbrev IsToldTrue : Record → Type 0
  IsToldTrue asked = (r : ChunkResult T) → IsResultOf meaning worker t asked r → IsTrueTail t r

  answer-told : (p : Place) (asked : Record) → p.given ≤ length t.items → tells asked (reply t p asked.asked) ≡ true → IsToldTrue asked
  answer-told p asked within tells_it r answer =
      let told = Told-from_tells asked (reply t p asked.asked) tells_it in
      let few = length-reply t p asked.asked in
      let first : asked.first ≡ p.given = told.first ∙ reply-first t p asked.asked in
      let count : length answer.chunk.items.items ≡ asked.count =
      ap length answer.of.items ∙ length-take-le asked.count (drop asked.first t.items)
      (omega (arith, length-drop asked.first t.items, first, told.count, few, within)) in
      let at : end_of_result r ≡ p.given + length (reply t p asked.asked).items =
      omega (arith, answer.made.first, answer.of.first, first, answer.made.count, count, told.count) in
      rw (answer.made.tail, answer.of.tail, told.tail) (reply-told t p asked.asked (end_of_result r) within at)

  all-told : (p : Place) (h : List Record) → p.given ≤ length t.items → is_run t p h ≡ true → All IsToldTrue h
  all-told p [] within run = All-nil IsToldTrue
  all-told p (asked ∷ h) within run =
      let parts = and_parts (tells asked (reply t p asked.asked)) _ run in
      All-cons IsToldTrue asked h (answer-told p asked within parts.0)
      (all-told (next_place t p asked.asked) h (omega (arith, next_place-given t p asked.asked, length-reply t p asked.asked, within)) parts.1)

  pub told-of_record : (h : List Record) (asked : Record) → IsLegalHistory t h → Contains h asked → IsToldTrue asked
  told-of_record h asked legal there = All-contains IsToldTrue h asked (all-told start h (omega arith) (and_parts (is_run t start h) _ legal).0) there

-- ---- what the tails say

pub told-true : {T : Type 0} (t : Trace T) (source_end : Option (ℕ × Ending)) (offers : List (ChunkResult T)) → IfSome source_end (EndsAt t)
    → AreTrueTails t offers → IfSome (all_told source_end offers) (EndsAt t)
told-true t source_end [] here tails = here
told-true t None (r ∷ rs) here tails = told-true t (told_at (end_of_result r) r.tail) rs tails.0 tails.1
told-true t (Some at) (r ∷ rs) here tails = told-true t (Some at) rs here tails.1

-- ---- where the offers stand in the row

-- with these intervals the keys of all offers wait, and no interval overlaps another
pub record ArePlaced {T : Type 0} (before : List (Interval (Trace T))) (offers : List (ChunkResult T)) (after : List (Interval (Trace T))) : Type 0 where
  pub apart : are_apart 0 after ≡ true
  pub keys : (key : ℕ) → has_key after key ≡ has_key before key || is_offered offers key

placed_intervals-one : {T : Type 0} (order : Order) (ps : List (Interval (Trace T))) (r : ChunkResult T) → are_apart 0 ps ≡ true
    → IsFree ps r.first (end_of_result r)
    → (are_apart 0 (placed_intervals order ps r) ≡ true)
    × ((key : ℕ) → has_key (placed_intervals order ps r) key ≡ has_key ps key || is_within r.first (end_of_result r) key)
placed_intervals-one order ps r apart free =
    elim (cases_lt 0 r.count) [
      | inl some ↦
          let test : (r.count == 0) ≡ false = grind (arith, nat_tests) in
          rw test (
            apart-insert 0 r.first (end_of_result r) (waiting_trace order r) ps apart (omega arith) (omega arith) free,
            λ key. has_key-insert 0 r.first (end_of_result r) (waiting_trace order r) ps key apart (omega arith) free,
          )
      | inr few ↦
          let none : r.count ≡ 0 = omega arith in
          rw none (apart, λ key. sym (ap (λ b. has_key ps key || b) (not_within-none r.first 0 key refl) ∙ or-false (has_key ps key)))
    ]

pub placed-all : {T : Type 0} (order : Order) (ps : List (Interval (Trace T))) (offers : List (ChunkResult T)) → are_apart 0 ps ≡ true → AreApart offers
    → ((key : ℕ) → is_offered offers key ≡ true → has_key ps key ≡ false) → ArePlaced ps offers (all_placed order ps offers)
placed-all order ps [] apart new free = record { apart = apart; keys = λ key. sym (or-false (has_key ps key)) }
placed-all order ps (r ∷ rs) apart new free =
    let one = placed_intervals-one order ps r apart (λ key within. free key (or_left _ _ within)) in
    let others = placed-all order (placed_intervals order ps r) rs one.0 new.1 (λ key there. one.1 key ∙ or_from _ _ (free key (or_right _ _ there))
    (false_from_ne_true _ (λ within. let bad : true ≡ false = sym there ∙ new.0 key within in cc))) in
    record { apart = others.apart; keys = λ key. rw (others.keys key, one.1 key, or_assoc) refl }

-- ---- intervals of the source's results

module _ {L T : Type 0} (meaning : L → Meaning T) (worker : List (Op L)) (t : Trace T) (few : length t.items ≤ 2 ^ 40) where
  -- what the fragments of the items before a key give
  abbrev before : ℕ → Trace T
  before key = glued_trace meaning worker 0 (take key t.items) None

  -- it gives what comes after the items before it, and ends among them
  record IsOfSource (p : Interval (Trace T)) : Type 0 where
    pub next : followed_by (before p.0) p.1.payload ≡ before p.1.end
    pub within : p.1.end ≤ length t.items

  are-of_source : (offers : List (ChunkResult T)) → AreOffers meaning worker t offers
      → All (λ r. IsOfSource (r.first, record { end = end_of_result r; payload = result_trace r })) offers
  are-of_source [] are = All-nil (λ r. IsOfSource (r.first, record { end = end_of_result r; payload = result_trace r }))
  are-of_source (r ∷ rs) are =
      let offer = are.0 in
      All-cons (λ r. IsOfSource (r.first, record { end = end_of_result r; payload = result_trace r })) r rs
      (record { next = row-next meaning worker t r few offer; within = omega (arith, offer.made.first, offer.made.count, offer.within) })
      (are-of_source rs are.1)

  all-of_source : (offers : List (ChunkResult T)) → AreOffers meaning worker t offers → All IsOfSource (all_placed ByKey [] offers)
  all-of_source offers are = All-placed IsOfSource ByKey [] offers (All-nil IsOfSource) (are-of_source offers are)

  -- a row of them gives what the items up to its end give
  row-gives : (from : ℕ) (ps : List (Interval (Trace T))) (to : ℕ) → IsRow from ps to → All IsOfSource ps → followed_by (before from) (all_given ps) ≡ before to
  row-gives from [] to is_row all = followed_by-open_nil (before from) ∙ ap before is_row
  row-gives from (p ∷ ps) to is_row all =
      let here = All-head IsOfSource p ps all in
      rw (← is_row.0, ← followed_by-followed_by (before p.0) p.1.payload (all_given ps), here.next)
      (row-gives p.1.end ps to is_row.1 (All-tail IsOfSource p ps all))

  -- so the offers merge to what the items before the first gap give, and the source's ending if this is its place
  merged_trace-gap : (offers : List (ChunkResult T)) → AreOffers meaning worker t offers
      → merged_trace ByKey offers ≡ followed_by (before (first_gap 0 (all_placed ByKey [] offers)))
      (trace_of [] (ending_at (all_told None offers) (first_gap 0 (all_placed ByKey [] offers))))
  merged_trace-gap offers are =
      let ps : List (Interval (Trace T)) = all_placed ByKey [] offers in
      let gives = row-gives 0 (unbroken_row 0 ps) (first_gap 0 ps) (row-of-unbroken_row 0 ps) (All-unbroken_row IsOfSource 0 ps (all-of_source offers are)) in
      rw (arrived_trace-by_key offers, ← gives) refl

  -- ---- how the source's fragments begin

  abbrev pub Begins : Trace T → Type 0
  Begins first = (rest : Trace T) × (glue meaning worker t ≡ followed_by first rest)

  glue-at_end : (key : ℕ) (e : Ending) → key ≡ length t.items → t.ending ≡ Some e → glue meaning worker t ≡ followed_by (before key) (trace_of [] (Some e))
  glue-at_end key e here ends = rw (here, take-length t.items, ← ends) (glue-whole meaning worker t)

  glue-told : (source_end : Option (ℕ × Ending)) (key : ℕ) → IsSome source_end → IfSome source_end (EndsAt t) → key ≡ length t.items
      → glue meaning worker t ≡ followed_by (before key) (trace_of [] (ending_at source_end key))
  glue-told None key some is here = absurd (let bad : false ≡ true = some in cc)
  glue-told (Some at) key some is here = rw (same_test at.0 key (is.0 ∙ sym here)) (glue-at_end key at.1 here is.1)

  open-begins : (key : ℕ) → Begins (followed_by (before key) (open_trace []))
  open-begins key =
      let parts = glued_trace-append meaning worker 0 (take key t.items) (drop key t.items) t.ending in
      (_, rw (take-append-drop key t.items, ← followed_by-open_nil (before key)) at parts)

  gap-begins : (source_end : Option (ℕ × Ending)) (key : ℕ) → IfSome source_end (EndsAt t)
      → Begins (followed_by (before key) (trace_of [] (ending_at source_end key)))
  gap-begins None key is = open-begins key
  gap-begins (Some at) key is =
      elim (at.0 == key) as (λ v. v ≡ (at.0 == key) → Begins (followed_by (before key) (trace_of [] (cond v (Some at.1) None)))) [
        | true ↦ λ test.
            let ended = glue-at_end key at.1 (sym (same_key at.0 key (sym test)) ∙ is.0) is.1 in
            (open_trace [], ended ∙ sym (followed_by-open_nil (followed_by (before key) (trace_of [] (Some at.1)))))
        | false ↦ λ test. open-begins key
      ] refl

  pub merged_trace-begins : (offers : List (ChunkResult T)) → AreOffers meaning worker t offers → AreTrueTails t offers → Begins (merged_trace ByKey offers)
  merged_trace-begins offers are tails =
      rw (merged_trace-gap offers are) (gap-begins (all_told None offers) (first_gap 0 (all_placed ByKey [] offers)) (told-true t None offers tt tails))

  merged_trace-whole : (offers : List (ChunkResult T)) → AreOffers meaning worker t offers → AreTrueTails t offers → AreWhole t offers
      → merged_trace ByKey offers ≡ glue meaning worker t
  merged_trace-whole offers are tails all =
      let ps : List (Interval (Trace T)) = all_placed ByKey [] offers in
      let gap : ℕ = first_gap 0 ps in
      let stand = placed-all ByKey [] offers refl all.apart (λ key there. refl) in
      let most = gap-most (length t.items) 0 ps (omega arith)
      (All-weaker IsOfSource (λ p. p.1.end ≤ length t.items) (λ p is. is.within) ps (all-of_source offers are)) in
      let here : gap ≡ length t.items =
      elim (cases_lt gap (length t.items)) [
        | inl less ↦ absurd (let bad : true ≡ false = sym (stand.keys gap ∙ all.keys gap less) ∙ gap-missing 0 ps stand.apart in cc)
        | inr past ↦ omega arith
      ] in
      merged_trace-gap offers are ∙ sym (glue-told (all_told None offers) gap all.end (told-true t None offers tt tails) here)

-- ---- the answer

module _ {L T : Type 0} (meaning : L → Meaning T) (worker : List (Op L)) (t : Trace T) (merge : Merge T) (offers : List (ChunkResult T))
    (few : length t.items ≤ 2 ^ 40) (by_key : merge.order ≡ ByKey) (undecided : merge.decided ≡ false) (are : AreOffers meaning worker t offers)
    (tails : AreTrueTails t offers) where
  by_key-answer : answer merge offers ≡ seq merge.after (merged_trace ByKey offers)
  by_key-answer = answer-open merge offers undecided ∙ ap (λ o. seq merge.after (merged_trace o offers)) by_key

  -- the sequential answer begins with the answer to the offers
  answer-begins : (rest : Trace T) × (seq merge.after (glue meaning worker t) ≡ followed_by (answer merge offers) rest)
  answer-begins =
      let begins = merged_trace-begins meaning worker t few offers are tails in
      (_, rw (← by_key-answer, ← begins.1) at (seq-followed_by merge.after (merged_trace ByKey offers) begins.0))

  pub shown_batches-first : AreFirstOf (shown_batches merge offers) (batches_from merge.size [] (seq merge.after (glue meaning worker t)))
  shown_batches-first =
      let first = batches-first merge.size [] (answer merge offers) answer-begins.0 in
      (first.0, ap (batches_from merge.size []) answer-begins.1 ∙ first.1)

  -- an answer that has ended is the sequential one
  pub decided-whole : (e : Ending) → (answer merge offers).ending ≡ Some e → answer merge offers ≡ seq merge.after (glue meaning worker t)
  decided-whole e ends = sym (answer-begins.1 ∙ followed_by-ended (answer merge offers) answer-begins.0 e ends)

  -- and so is that to all of the source
  pub answer-whole : AreWhole t offers → answer merge offers ≡ seq merge.after (glue meaning worker t)
  answer-whole all = by_key-answer ∙ ap (seq merge.after) (merged_trace-whole meaning worker t few offers are tails all)

-- what the laws state
pub ruleset of_source = (shown_batches-first, decided-whole, answer-whole)
