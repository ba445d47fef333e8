-- A row of results from key 0 gives the glued fragments of the items that it accounts for, whatever the cuts.
use Rattle.std.specs.Prelude.{◌≡◌, ℕ, ◌+◌, ◌≤◌, List, [], ◌∷◌, ◌++◌, length, take, drop, true, false, ◌||◌, ◌==◌, Some, None, ◌≢◌}
use Rattle.std.proofs.Common.{sym, ◌∙◌, ap, inl, inr, arith, append-nil}
use Rattle.std.proofs.lemmas.Bool.{or_left, or_right}
use Rattle.std.proofs.lemmas.List.{take-append-drop, length-take-le}
use Rattle.std.proofs.lemmas.List.Folds.{list_any-append}
use Rattle.std.proofs.Math.Seq.{take-add}
use Rattle.plinq_source.specs.declared.ending.Ending.{Ending}
use Rattle.plinq_source.specs.Trace.{Trace, followed_by}
use Rattle.plinq_source.proofs.Followed.{trace_of, followed_by-ended, followed_by-open_nil, followed_by-followed_by}
use Rattle.plinq_lambda.specs.Meaning.{Meaning}
use Rattle.plinq_keyed.specs.Keys.{is_among}
use Rattle.plinq_ops.specs.declared.op.Op.{Op}
use Rattle.plinq_ops.specs.declared.frag_end.FragEnd.TheVariants.{Dropped}
use Rattle.plinq_ops.specs.declared.results.ChunkResult.{ChunkResult}
use Rattle.plinq_ops.specs.Stage.{Stage, seq, seq_after}
use Rattle.plinq_ops.specs.Fragment.{glued_trace, glue}
use Rattle.plinq_ops.specs.Chunk.{result_trace, chunk_answer}
use Rattle.plinq_ops.specs.Cut.{stop_keys, most_items}
use Rattle.plinq_ops.specs.Row.{IsOffer, AreOffers, IsRow, row_trace}
use Rattle.plinq_ops.proofs.Stages.{seq-followed_by}
use Rattle.plinq_ops.proofs.Open.{none-or_ending}
use Rattle.plinq_ops.proofs.Glue.{glued_trace-append, chunk_answer-uncut}
use Rattle.plinq_ops.proofs.Cut.{stop_keys-append, chunk_answer-reached, undropped-uncut, result-is, kept-from_told, stop-stops_at}

-- where a chunk stands in its source: items before it, its own, and items after it
record HasPlace {T : Type 0} (items : List T) (first : ℕ) (xs : List T) : Type 0 where
  pub rest : List T
  pub parts : items ≡ take first items ++ (xs ++ rest)
  pub place : first ≡ length (take first items)
  pub joined : take (first + length xs) items ≡ take first items ++ xs

has_place : {T : Type 0} (items : List T) (first : ℕ) (xs : List T) → first + length xs ≤ length items → xs ≡ take (length xs) (drop first items)
    → HasPlace items first xs
has_place items first xs within is =
    record {
      rest = drop (length xs) (drop first items);
      parts = sym (take-append-drop first items)
          ∙ ap (λ ys. take first items ++ ys) (sym (take-append-drop (length xs) (drop first items))
          ∙ ap (λ ys. ys ++ drop (length xs) (drop first items)) (sym is));
      place = sym (length-take-le first items (omega (arith, within)));
      joined = take-add first (length xs) items ∙ ap (λ ys. take first items ++ ys) (sym is);
    }

-- after a row that is still open a result gives the glued fragments of its chunk
pub result-after_open : {L T : Type 0} (meaning : L → Meaning T) (worker : List (Op L)) (t : Trace T) (r : ChunkResult T)
    → length t.items ≤ most_items → (offer : IsOffer meaning worker t r)
    → (glued_trace meaning worker 0 (take r.first t.items) None).ending ≡ None
    → (result_trace r ≡ glued_trace meaning worker r.first offer.chunk.items.items None) × (r.ending ≢ Dropped)
result-after_open {L} {T} meaning worker t r few offer is_open =
    let xs : List T = offer.chunk.items.items in
    let first : ℕ = offer.chunk.first in
    let place = has_place t.items first xs offer.within offer.items in
    let reached : chunk_answer meaning worker offer.cut first xs ≡ chunk_answer meaning worker (first + length xs) first xs =
    chunk_answer-reached meaning worker t.items (take first t.items) xs place.rest offer.cut (first + length xs) first offer.is_cut place.parts place.place
    (ap (λ k. (glued_trace meaning worker 0 (take k t.items) None).ending) (sym offer.made.first) ∙ is_open) (omega (arith, few, offer.within)) (omega arith) in
    let kept : (chunk_answer meaning worker offer.cut first xs).dropped ≡ false =
    ap (λ a. a.dropped) reached ∙ undropped-uncut meaning worker (first + length xs) first xs (omega arith) in
    let whole = result-is meaning worker offer.cut offer.chunk r offer.made kept in (
      whole.0
          ∙ ap (λ a. a.trace) reached
          ∙ chunk_answer-uncut meaning worker (first + length xs) first xs (omega arith)
          ∙ ap (λ k. glued_trace meaning worker k xs None) (sym offer.made.first),
      whole.1,
    )

-- one result more
pub row-next : {L T : Type 0} (meaning : L → Meaning T) (worker : List (Op L)) (t : Trace T) (r : ChunkResult T) → length t.items ≤ most_items
    → IsOffer meaning worker t r
    → followed_by (glued_trace meaning worker 0 (take r.first t.items) None) (result_trace r)
    ≡ glued_trace meaning worker 0 (take (r.first + r.count) t.items) None
row-next {L} {T} meaning worker t r few offer =
    let xs : List T = offer.chunk.items.items in
    let before : Trace T = glued_trace meaning worker 0 (take r.first t.items) None in
    let here : Trace T = glued_trace meaning worker r.first xs None in
    let place = rw (← offer.made.first) at (has_place t.items offer.chunk.first xs offer.within offer.items) in
    let same : 0 + length (take r.first t.items) ≡ r.first = omega (arith, place.place) in
    let all : glued_trace meaning worker 0 (take (r.first + r.count) t.items) None ≡ followed_by before here =
    ap (λ n. glued_trace meaning worker 0 (take (r.first + n) t.items) None) offer.made.count
    ∙ ap (λ ys. glued_trace meaning worker 0 ys None) place.joined
    ∙ glued_trace-append meaning worker 0 (take r.first t.items) xs None
    ∙ ap (λ k. followed_by before (glued_trace meaning worker k xs None)) same in
    elim (none-or_ending before.ending) [
      | inl is_open ↦ ap (followed_by before) (result-after_open meaning worker t r few offer is_open).0 ∙ sym all
      | inr ends ↦ followed_by-ended before (result_trace r) ends.0 ends.1 ∙ sym (followed_by-ended before here ends.0 ends.1) ∙ sym all
    ]

row-from : {L T : Type 0} (meaning : L → Meaning T) (worker : List (Op L)) (t : Trace T) (rs : List (ChunkResult T)) (from to : ℕ)
    → length t.items ≤ most_items → AreOffers meaning worker t rs → IsRow from rs to
    → followed_by (glued_trace meaning worker 0 (take from t.items) None) (row_trace rs) ≡ glued_trace meaning worker 0 (take to t.items) None
row-from meaning worker t [] from to few offers row =
    followed_by-open_nil (glued_trace meaning worker 0 (take from t.items) None) ∙ ap (λ k. glued_trace meaning worker 0 (take k t.items) None) row
row-from {L} {T} meaning worker t (r ∷ rs) from to few offers row =
    let before : Trace T = glued_trace meaning worker 0 (take from t.items) None in
    let next : followed_by before (result_trace r) ≡ glued_trace meaning worker 0 (take (from + r.count) t.items) None =
    ap (λ k. followed_by (glued_trace meaning worker 0 (take k t.items) None) (result_trace r)) (sym row.0)
    ∙ row-next meaning worker t r few offers.0
    ∙ ap (λ k. glued_trace meaning worker 0 (take (k + r.count) t.items) None) row.0 in
    sym (followed_by-followed_by before (result_trace r) (row_trace rs))
    ∙ ap (λ u. followed_by u (row_trace rs)) next
    ∙ row-from meaning worker t rs (from + r.count) to few offers.1 row.1

-- a row of results from key 0 gives the glued fragments of the items up to its end
pub row-holds : {L T : Type 0} (meaning : L → Meaning T) (worker : List (Op L)) (t : Trace T) (rs : List (ChunkResult T)) (to : ℕ)
    → length t.items ≤ most_items → AreOffers meaning worker t rs → IsRow 0 rs to
    → row_trace rs ≡ glued_trace meaning worker 0 (take to t.items) None
row-holds meaning worker t rs to few offers row = row-from meaning worker t rs 0 to few offers row

-- all fragments, and after them how the source ends
pub glue-whole : {L T : Type 0} (meaning : L → Meaning T) (worker : List (Op L)) (t : Trace T)
    → glue meaning worker t ≡ followed_by (glued_trace meaning worker 0 t.items None) (trace_of [] t.ending)
glue-whole meaning worker t =
    ap (λ ys. glued_trace meaning worker 0 ys t.ending) (sym (append-nil t.items)) ∙ glued_trace-append meaning worker 0 t.items [] t.ending

-- an answer that the first k items decide is the answer to all
pub answer-decided : {L T : Type 0} (meaning : L → Meaning T) (worker : List (Op L)) (after : List (Stage T)) (t : Trace T) (k : ℕ) (e : Ending)
    → (seq after (glued_trace meaning worker 0 (take k t.items) None)).ending ≡ Some e
    → seq after (glue meaning worker t) ≡ seq after (glued_trace meaning worker 0 (take k t.items) None)
answer-decided {L} {T} meaning worker after t k e ends =
    let first : Trace T = glued_trace meaning worker 0 (take k t.items) None in
    let rest : Trace T = glued_trace meaning worker (0 + length (take k t.items)) (drop k t.items) t.ending in
    ap (λ ys. seq after (glued_trace meaning worker 0 ys t.ending)) (sym (take-append-drop k t.items))
    ∙ ap (seq after) (glued_trace-append meaning worker 0 (take k t.items) (drop k t.items) t.ending)
    ∙ seq-followed_by after first rest
    ∙ followed_by-ended (seq after first) (seq (seq_after after first) rest) e ends

among-append : (js ks : List ℕ) (k : ℕ) → is_among (js ++ ks) k ≡ (is_among js k || is_among ks k)
among-append js ks k = list_any-append (λ j. k == j) js ks

-- the key at which a result stopped that dropped nothing ends the run
pub stop-ends : {L T : Type 0} (meaning : L → Meaning T) (worker : List (Op L)) (t : Trace T) (r : ChunkResult T) (k : ℕ) → IsOffer meaning worker t r
    → r.ending ≢ Dropped → r.stop ≡ Some k
    → is_among (stop_keys meaning worker 0 t.items) k ≡ true
stop-ends {L} {T} meaning worker t r k offer kept stop =
    let xs : List T = offer.chunk.items.items in
    let first : ℕ = offer.chunk.first in
    let place = has_place t.items first xs offer.within offer.items in
    let here : is_among (stop_keys meaning worker first xs) k ≡ true =
    stop-stops_at meaning worker offer.cut first xs k (kept-from_told meaning worker offer.cut offer.chunk r offer.made kept) (sym offer.made.stop ∙ stop) in
    let all : stop_keys meaning worker 0 t.items
    ≡ stop_keys meaning worker 0 (take first t.items) ++ (stop_keys meaning worker first xs
    ++ stop_keys meaning worker (first + length xs) place.rest) =
    ap (stop_keys meaning worker 0) place.parts
    ∙ stop_keys-append meaning worker 0 (take first t.items) (xs ++ place.rest)
    ∙ ap (λ j. stop_keys meaning worker 0 (take first t.items) ++ stop_keys meaning worker j (xs ++ place.rest))
    (let same : 0 + length (take first t.items) ≡ first = omega (arith, place.place) in same)
    ∙ ap (λ ks. stop_keys meaning worker 0 (take first t.items) ++ ks) (stop_keys-append meaning worker first xs place.rest) in
    ap (λ ks. is_among ks k) all
    ∙ among-append (stop_keys meaning worker 0 (take first t.items)) (stop_keys meaning worker first xs
    ++ stop_keys meaning worker (first + length xs) place.rest) k
    ∙ or_right _ _ (among-append (stop_keys meaning worker first xs) (stop_keys meaning worker (first + length xs) place.rest) k ∙ or_left _ _ here)
