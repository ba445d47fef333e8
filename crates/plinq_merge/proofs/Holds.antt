-- What a row of keys stands for: with one offer more, and once the interval under its next key has gone.
use Rattle.plinq_merge.proofs.MergerWords.{◌≡◌, ℕ, ◌<◌, ◌==◌, List, [], ◌∷◌, ◌++◌, length, true, false, ◌||◌, cond, Option, Some, None, All, refl, option_or}
use Rattle.plinq_merge.proofs.MergerWords.{unwrap_or, sym, ◌∙◌, ap, subst, arith, append_assoc, nat_tests, All-nil, All-head, All-tail, All-weaker, or_assoc}
use Rattle.plinq_merge.proofs.MergerWords.{or-false, Ending, Trace, open_trace, followed_by, trace_of, followed_by-followed_by, followed_by-open_nil, Order}
use Rattle.plinq_merge.proofs.MergerWords.{ByKey, ByArrival, ChunkResult, result_trace, end_of_result, told_at, Interval, is_within, unbroken_row, first_gap}
use Rattle.plinq_merge.proofs.MergerWords.{IsRow, Buffered, IsFresh, TakesNext, IsAtGap, Inserts, Row, waiting_trace, placed_intervals, all_placed, all_told}
use Rattle.plinq_merge.proofs.MergerWords.{all_given, ending_at, merged_trace, is_offered, TakesIn, rest_of, cases_lt, inl, inr}
use Rattle.std.proofs.{Math.Seq.take-append_seam, lemmas.List.Elements.All-push, lemmas.List.Elements.All-take}
use Rattle.plinq_reorder.proofs.{Gap.row-append, Gap.row-push, Insert.All-insert, Insert.insert-after, Insert.after-next}
use Rattle.plinq_reorder.specs.{Buffered.with_interval, Intervals.insert}
use Rattle.plinq_merge.specs.{Merging.Holds, Shown.at_once, Shown.row as row_of, Shown.arrived_trace}

module _ {T : Type 0} where
  -- ---- one offer more

  all_placed-append : (order : Order) (ps : List (Interval (Trace T))) (offers : List (ChunkResult T)) (r : ChunkResult T)
      → all_placed order ps (offers ++ r ∷ []) ≡ placed_intervals order (all_placed order ps offers) r
  all_placed-append order ps [] r = refl
  all_placed-append order ps (o ∷ os) r = all_placed-append order (placed_intervals order ps o) os r

  all_told-append : (source_end : Option (ℕ × Ending)) (offers : List (ChunkResult T)) (r : ChunkResult T)
      → all_told source_end (offers ++ r ∷ []) ≡ option_or (all_told source_end offers) (told_at (end_of_result r) r.tail)
  all_told-append source_end [] r = refl
  all_told-append source_end (o ∷ os) r = all_told-append (option_or source_end (told_at (end_of_result o) o.tail)) os r

  arrived_trace-append : (order : Order) (offers : List (ChunkResult T)) (r : ChunkResult T)
      → arrived_trace order (offers ++ r ∷ []) ≡ followed_by (arrived_trace order offers) (at_once order r)
  arrived_trace-append order [] r = followed_by-open_nil (at_once order r)
  arrived_trace-append order (o ∷ os) r = rw (arrived_trace-append order os r, followed_by-followed_by) refl

  pub is_offered-append : (offers : List (ChunkResult T)) (r : ChunkResult T) (key : ℕ)
      → is_offered (offers ++ r ∷ []) key ≡ is_offered offers key || is_within r.first (end_of_result r) key
  is_offered-append [] r key = or-false (is_within r.first (end_of_result r) key)
  is_offered-append (o ∷ os) r key = rw (is_offered-append os r key, or_assoc) refl

  -- by key nothing is merged at once
  pub arrived_trace-by_key : (offers : List (ChunkResult T)) → arrived_trace ByKey offers ≡ open_trace []
  arrived_trace-by_key [] = refl
  arrived_trace-by_key (o ∷ os) = arrived_trace-by_key os

  -- ---- the intervals of all offers

  -- what is true of each result's interval is true of all
  pub All-placed : (Q : Interval (Trace T) → Type 0) (order : Order) (ps : List (Interval (Trace T))) (offers : List (ChunkResult T)) → All Q ps
      → All (λ r. Q (r.first, record { end = end_of_result r; payload = waiting_trace order r })) offers → All Q (all_placed order ps offers)
  All-placed Q order ps [] all are = all
  All-placed Q order ps (r ∷ rs) all are =
      let R : ChunkResult T → Type 0 = λ o. Q (o.first, record { end = end_of_result o; payload = waiting_trace order o }) in
      All-placed Q order (placed_intervals order ps r) rs
      (elim (r.count == 0) as (λ v. All Q (cond v ps (insert ps r.first (end_of_result r) (waiting_trace order r)))) [
        | true ↦ all
        | false ↦ All-insert Q ps r.first (end_of_result r) (waiting_trace order r) all (All-head R r rs are)
      ]) (All-tail R r rs are)

  -- by arrival they give nothing
  pub nothing-placed : (offers : List (ChunkResult T)) → All (λ p. p.1.payload ≡ open_trace []) (all_placed ByArrival [] offers)
  nothing-placed offers = All-placed (λ p. p.1.payload ≡ open_trace []) ByArrival [] offers (All-nil (λ p. p.1.payload ≡ open_trace [])) (λ k r below. refl)

  pub nothing-given : (ps : List (Interval (Trace T))) → All (λ p. p.1.payload ≡ open_trace []) ps → all_given ps ≡ open_trace []
  nothing-given [] none = refl
  nothing-given (p ∷ ps) none =
      ap (λ t. followed_by t (all_given ps)) (All-head (λ q. q.1.payload ≡ open_trace []) p ps none)
      ∙ nothing-given ps (All-tail (λ q. q.1.payload ≡ open_trace []) p ps none)

  all_given-append : (ps qs : List (Interval (Trace T))) → all_given (ps ++ qs) ≡ followed_by (all_given ps) (all_given qs)
  all_given-append [] qs = refl
  all_given-append (p ∷ ps) qs = rw (all_given-append ps qs, followed_by-followed_by) refl

  -- after a row of intervals the row of keys goes on
  row_of-append : (source_end : Option (ℕ × Ending)) (from to : ℕ) (done rest : List (Interval (Trace T))) → IsRow from done to
      → row_of source_end from (done ++ rest) ≡ followed_by (all_given done) (row_of source_end to rest)
  row_of-append source_end from to done rest is_row =
      let at = row-append from done to rest is_row in
      rw (at.1, at.0, all_given-append done (unbroken_row to rest))
      (followed_by-followed_by (all_given done) (all_given (unbroken_row to rest)) (trace_of [] (ending_at source_end (first_gap to rest))))

  -- ---- what is held

  -- what the offers merge to
  pub merged_trace-holds : {order : Order} {row : Row T} {offers : List (ChunkResult T)} {gone : Trace T} → Holds order row offers gone
      → merged_trace order offers ≡ followed_by gone (rest_of row)
  merged_trace-holds {order} {row} {offers} h =
      let parts = row_of-append row.source_end 0 row.buffer.next h.done row.buffer.held h.is_row in
      rw (h.source_end, h.placed, parts, ← followed_by-followed_by (arrived_trace order offers) (all_given h.done) (rest_of row), h.gave) refl

  -- the interval under the next key has gone
  pub holds-next : {order : Order} {row : Row T} {p gone : Trace T} {buffer : Buffered (Trace T)} {offers : List (ChunkResult T)}
      → TakesNext row.buffer p buffer → Holds order row offers gone → Holds order (record row { buffer = buffer }) offers (followed_by gone p)
  holds-next {order} {row} {p} {buffer} {offers} takes h =
      let q : Interval (Trace T) = (row.buffer.next, record { end = buffer.next; payload = p }) in
      record {
        done = h.done ++ q ∷ [];
        placed = h.placed ∙ ap (λ qs. h.done ++ qs) takes.held ∙ sym (append_assoc h.done (q ∷ []) buffer.held);
        is_row = row-push 0 h.done q h.is_row;
        before = All-push (λ s. s.0 < buffer.next) h.done q
            (All-weaker (λ s. s.0 < row.buffer.next) (λ s. s.0 < buffer.next) (λ s past. omega (arith, takes.some)) h.done h.before) takes.some;
        source_end = h.source_end;
        gave = rw (all_given-append h.done (q ∷ []), followed_by-open_nil p, ← h.gave, followed_by-followed_by) refl;
      }

  -- what is merged at once and what waits may change places, since one of them is nothing
  swap : (order : Order) (offers : List (ChunkResult T)) (first : Trace T) (r : ChunkResult T) (done rest : List (Interval (Trace T)))
      → all_placed order [] offers ≡ done ++ rest
      → followed_by (followed_by first (at_once order r)) (all_given done) ≡ followed_by (followed_by first (all_given done)) (at_once order r)
  swap ByKey offers first r done rest is = rw (followed_by-open_nil first, followed_by-open_nil (followed_by first (all_given done))) refl
  swap ByArrival offers first r done rest is =
      let empty : Interval (Trace T) → Type 0 = λ p. p.1.payload ≡ open_trace [] in
      let none : all_given done ≡ open_trace [] = nothing-given done
      (rw take-append_seam at (All-take empty (length done) (done ++ rest) (subst (All empty) is (nothing-placed offers)))) in
      rw (none, followed_by-open_nil (followed_by first (result_trace r)), followed_by-open_nil first) refl

  -- ---- a result that came into the row

  -- the interval of a fresh result stands after what has gone
  placed_intervals-after : (order : Order) (r : ChunkResult T) (done : List (Interval (Trace T))) (b : Buffered (Trace T)) → IsFresh b r.first (end_of_result r)
      → All (λ s. s.0 < b.next) done → placed_intervals order (done ++ b.held) r ≡ done ++ placed_intervals order b.held r
  placed_intervals-after order r done b fresh gone =
      elim (cases_lt 0 r.count) [
        | inl some ↦
            let past = after-next b r.first (end_of_result r) fresh (omega arith) in
            let test : (r.count == 0) ≡ false = grind (arith, nat_tests) in
            rw test (insert-after done b.held r.first (end_of_result r) (waiting_trace order r)
            (All-weaker (λ s. s.0 < b.next) (λ s. s.0 < r.first) (λ s before. omega (arith, past)) done gone))
        | inr few ↦ let none : r.count ≡ 0 = omega arith in rw none refl
      ]

  -- its interval waits among the others
  pub takes-placed_intervals : (order : Order) (before : Row T) (r : ChunkResult T) (after : Row T) → IsFresh before.buffer r.first (end_of_result r)
      → after.buffer ≡ record before.buffer { held = placed_intervals order before.buffer.held r }
      → after.source_end ≡ option_or before.source_end (told_at (end_of_result r) r.tail) → TakesIn order before r (at_once order r) after
  takes-placed_intervals order before r after fresh is noted offers gone h =
      let next : after.buffer.next ≡ before.buffer.next = ap (λ b. b.next) is in
      record {
        done = h.done;
        placed = rw (all_placed-append order [] offers r, h.placed, is) (placed_intervals-after order r h.done before.buffer fresh h.before);
        is_row = rw next h.is_row;
        before = rw next h.before;
        source_end = all_told-append None offers r ∙ ap (λ t. option_or t (told_at (end_of_result r) r.tail)) h.source_end ∙ sym noted;
        gave = rw (arrived_trace-append order offers r, swap order offers (arrived_trace order offers) r h.done before.buffer.held h.placed, h.gave) refl;
      }

  -- or its turn has come, and the row hands back what it gives
  pub takes-inserted : (order : Order) (before : Row T) (r : ChunkResult T) (turn : Option (Trace T)) (after : Row T) → 0 < r.count
      → IsFresh before.buffer r.first (end_of_result r)
      → Inserts before.buffer r.first (end_of_result r) (waiting_trace order r) turn after.buffer
      → after.source_end ≡ option_or before.source_end (told_at (end_of_result r) r.tail)
      → TakesIn order before r (followed_by (at_once order r) (unwrap_or turn (open_trace []))) after
  takes-inserted order before r None after some fresh inserts noted offers gone h =
      let test : (r.count == 0) ≡ false = grind (arith, nat_tests) in
      rw (followed_by-open_nil (at_once order r)) (takes-placed_intervals order before r after fresh (rw test inserts.1) noted offers gone h)
  takes-inserted order before r (Some p) after some fresh inserts noted offers gone h =
      let test : (r.count == 0) ≡ false = grind (arith, nat_tests) in
      let q : Trace T = waiting_trace order r in
      let row : Row T = record { buffer = with_interval before.buffer r.first (end_of_result r) q; source_end = after.source_end } in
      rw (inserts.0, ← followed_by-followed_by gone (at_once order r) q)
      (holds-next inserts.1 (takes-placed_intervals order before r row fresh (rw test refl) noted offers gone h))

  -- by arrival it hands back nothing but keys
  pub by_arrival-hand : (r : ChunkResult T) (b : Buffered (Trace T)) (turn : Option (Trace T)) (b' : Buffered (Trace T))
      → Inserts b r.first (end_of_result r) (open_trace []) turn b'
      → followed_by (result_trace r) (unwrap_or turn (open_trace [])) ≡ result_trace r
  by_arrival-hand r b None b' inserts = followed_by-open_nil (result_trace r)
  by_arrival-hand r b (Some p) b' inserts = ap (followed_by (result_trace r)) inserts.0 ∙ followed_by-open_nil (result_trace r)

  -- at a gap the row gives no more than the source's ending
  pub rest-gap : (row : Row T) → IsAtGap row.buffer → rest_of row ≡ trace_of [] (ending_at row.source_end row.buffer.next)
  rest-gap row gap = rw (gap.gap, gap.nothing) refl
