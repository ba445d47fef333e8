-- The results of a legal history's chunks stand in a row from key 0.
use Rattle.std.specs.Prelude.{◌≡◌, ◌+◌, ◌≤◌, List, [], ◌∷◌, length, take, drop, true, None, refl}
use Rattle.std.specs.List.{Contains}
use Rattle.std.proofs.Common.{sym, ◌∙◌, ap, inl, inr, arith, length-drop}
use Rattle.std.proofs.lemmas.Bool.{and_parts}
use Rattle.std.proofs.lemmas.List.{length-take-le}
use Rattle.std.proofs.lemmas.List.Elements.{Contains-push_cases, Contains-append_cases}
use Rattle.plinq_source.specs.Trace.{Trace}
use Rattle.plinq_lambda.specs.Meaning.{Meaning}
use Rattle.plinq_keyed.specs.declared.record.Record.{Record}
use Rattle.plinq_keyed.specs.History.{Place, start, reply, next_place, place_after, tells, is_run, IsLegalHistory, given_by}
use Rattle.plinq_keyed.proofs.Legal.{Told-from_tells, reply-first, next_place-given, length-reply}
use Rattle.plinq_ops.specs.declared.op.Op.{Op}
use Rattle.plinq_ops.specs.declared.results.ChunkResult.{ChunkResult}
use Rattle.plinq_ops.specs.Fragment.{glued_trace}
use Rattle.plinq_ops.specs.Cut.{most_items}
use Rattle.plinq_ops.specs.Row.{IsOffer, AreOffers, IsRow, row_trace, IsResultOf, AreResultsOf}
use Rattle.plinq_ops.proofs.Rows.{row-holds}

-- a record that states the reply at a place: the items of its result's chunk stand there in the source
record IsResultAt {L T : Type 0} (meaning : L → Meaning T) (worker : List (Op L)) (t : Trace T) (p : Place) (asked : Record) (r : ChunkResult T) : Type 0 where
  pub offer : IsOffer meaning worker t r
  pub first : r.first ≡ p.given
  pub end : p.given + r.count ≡ (next_place t p asked.asked).given
  pub within : (next_place t p asked.asked).given ≤ length t.items

result-at : {L T : Type 0} (meaning : L → Meaning T) (worker : List (Op L)) (t : Trace T) (p : Place) (asked : Record) (r : ChunkResult T)
    → p.given ≤ length t.items
    → tells asked (reply t p asked.asked) ≡ true → IsResultOf meaning worker t asked r → IsResultAt meaning worker t p asked r
result-at {L} {T} meaning worker t p asked r within tells_it answer =
    let told = Told-from_tells asked (reply t p asked.asked) tells_it in
    let few = length-reply t p asked.asked in
    let first : asked.first ≡ p.given = told.first ∙ reply-first t p asked.asked in
    let count : length answer.chunk.items.items ≡ asked.count =
    ap length answer.of.items
    ∙ length-take-le asked.count (drop asked.first t.items) (omega (arith, length-drop asked.first t.items, first, told.count, few, within)) in
    let moved = next_place-given t p asked.asked in
    let place : answer.chunk.first ≡ p.given = answer.of.first ∙ first in
    record {
      offer = record {
        cut = answer.cut;
        chunk = answer.chunk;
        is_cut = answer.is_cut;
        within = omega (arith, place, count, told.count, few, within);
        items =
            answer.of.items ∙ ap (λ n. take n (drop asked.first t.items)) (sym count)
            ∙ ap (λ k. take (length answer.chunk.items.items) (drop k t.items)) (sym answer.of.first);
        made = answer.made;
      };
      first = answer.made.first ∙ place;
      end = omega (arith, moved, answer.made.count, count, told.count);
      within = omega (arith, moved, few, within);
    }

-- the results of a run's records stand in a row
offers-of_run : {L T : Type 0} (meaning : L → Meaning T) (worker : List (Op L)) (t : Trace T) (p : Place) (h : List Record) (rs : List (ChunkResult T))
    → p.given ≤ length t.items
    → is_run t p h ≡ true → AreResultsOf meaning worker t h rs → AreOffers meaning worker t rs × IsRow p.given rs (place_after t p h).given
offers-of_run meaning worker t p [] [] within run answers = (tt, refl)
offers-of_run meaning worker t p [] (r ∷ rs) within run answers = absurd answers
offers-of_run meaning worker t p (asked ∷ h) [] within run answers = absurd answers
offers-of_run {L} {T} meaning worker t p (asked ∷ h) (r ∷ rs) within run answers =
    let parts = and_parts (tells asked (reply t p asked.asked)) _ run in
    let here = result-at meaning worker t p asked r within parts.0 answers.0 in
    let rest = offers-of_run meaning worker t (next_place t p asked.asked) h rs here.within parts.1 answers.1 in
    ((here.offer, rest.0), (here.first, rw here.end rest.1))

-- the results of the records of a legal history give the glued fragments of what it handed out
pub row-of_history : {L T : Type 0} (meaning : L → Meaning T) (worker : List (Op L)) (t : Trace T) (h : List Record) (rs : List (ChunkResult T))
    → length t.items ≤ most_items → IsLegalHistory t h
    → AreResultsOf meaning worker t h rs → row_trace rs ≡ glued_trace meaning worker 0 (take (given_by t h) t.items) None
row-of_history meaning worker t h rs few legal answers =
    let run = and_parts (is_run t start h) _ legal in
    let row = offers-of_run meaning worker t start h rs (omega arith) run.0 answers in
    row-holds meaning worker t rs (given_by t h) few row.0 row.1

is_first : {A : Type 0} (x y : A) → Contains (x ∷ []) y → x ≡ y
is_first x y there = elim (Contains-push_cases [] x y there) [ inl none ↦ absurd (omega (arith, none.1)) | inr is ↦ is ]

-- the result of one record of a run
offer-of_run : {L T : Type 0} (meaning : L → Meaning T) (worker : List (Op L)) (t : Trace T) (p : Place) (h : List Record) (asked : Record) (r : ChunkResult T)
    → p.given ≤ length t.items
    → is_run t p h ≡ true → Contains h asked → IsResultOf meaning worker t asked r → IsOffer meaning worker t r
offer-of_run meaning worker t p [] asked r within run there answer = absurd (omega (arith, there.1))
offer-of_run {L} {T} meaning worker t p (first ∷ h) asked r within run there answer =
    let parts = and_parts (tells first (reply t p first.asked)) _ run in
    elim (Contains-append_cases (first ∷ []) h asked there) [
      | inl here ↦
          let same : first ≡ asked = is_first first asked here in
          (result-at meaning worker t p asked r within (ap (λ x. tells x (reply t p x.asked)) (sym same) ∙ parts.0) answer).offer
      | inr later ↦
          let moved = next_place-given t p first.asked in
          let few = length-reply t p first.asked in
          offer-of_run meaning worker t (next_place t p first.asked) h asked r (omega (arith, moved, few, within)) parts.1 later answer
    ]

pub offer-of_record : {L T : Type 0} (meaning : L → Meaning T) (worker : List (Op L)) (t : Trace T) (h : List Record) (asked : Record) (r : ChunkResult T)
    → IsLegalHistory t h
    → Contains h asked → IsResultOf meaning worker t asked r → IsOffer meaning worker t r
offer-of_record meaning worker t h asked r legal there answer =
    offer-of_run meaning worker t start h asked r (omega arith) (and_parts (is_run t start h) _ legal).0 there answer
