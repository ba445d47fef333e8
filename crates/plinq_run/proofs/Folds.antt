-- Merging folded results is folding what the results merge to; what is a fold is one of a result.
use Rattle.plinq_run.proofs.RunWords.{◌≡◌, ℕ, ◌==◌, List, [], ◌∷◌, true, false, cond, Option, None, All, refl, fold, ◌+◌, sym, ◌∙◌, ap, All-cons, All-head}
use Rattle.plinq_run.proofs.RunWords.{All-tail, All-nil, Ending, Trace, Meaning, Folding, fold_of, IsFolding, Order, ByKey, ByArrival, Plan, ChunkResult}
use Rattle.plinq_run.proofs.RunWords.{result_trace, end_of_result, told_at, Interval, unbroken_row, first_gap, is_offered, AreApart, all_placed, all_told}
use Rattle.plinq_run.proofs.RunWords.{all_given, arrived_trace, merged_trace, IsResult, IsPart, IsFoldOf, IsFolded}
use Rattle.std.specs.{Option.option_or, Ordering.nat_cmp, Ordering.match_ordering, List.AllZip}
use Rattle.std.specs.declared.cmp.Ordering.TheVariants.{Less, Equal, Greater}
use Rattle.plinq_ops.specs.Chunk.{run_ending}
use Rattle.plinq_reorder.specs.{declared.span.Span.Span, Intervals.insert}
use Rattle.plinq_merge.specs.Shown.{at_once, waiting_trace, placed_intervals}
use Rattle.plinq_run.specs.inner.{Folds.AreFoldsOf, Standing.stand-none, Standing.followed_by-folded}

module _ {T A O : Type 0} (f : Folding T A O) where
  folded-ending : (e : Option Ending) → IsFolded f (record { items = []; ending = e }) (record { items = []; ending = e })
  folded-ending e = record { items = stand-none f; ending = refl }

  -- an interval of results, and one of folds
  record AreAlike (p : Interval (Trace T)) (q : Interval (Trace A)) : Type 0 where
    pub key : q.0 ≡ p.0
    pub end : q.1.end ≡ p.1.end
    pub trace : IsFolded f p.1.payload q.1.payload

  abbrev AreRowsAlike : List (Interval (Trace T)) → List (Interval (Trace A)) → Type 0
  AreRowsAlike ps qs = AllZip AreAlike ps qs

  unbroken_row-folded : (key : ℕ) (ps : List (Interval (Trace T))) (qs : List (Interval (Trace A))) → AreRowsAlike ps qs
      → IsFolded f (all_given (unbroken_row key ps)) (all_given (unbroken_row key qs)) × (first_gap key qs ≡ first_gap key ps)
  unbroken_row-folded key [] [] alike = (folded-ending None, refl)
  unbroken_row-folded key (p ∷ ps) (q ∷ qs) alike =
      let later = unbroken_row-folded p.1.end ps qs alike.1 in
      let r : Interval (Trace A) = (p.0, record { end = p.1.end; payload = q.1.payload }) in
      rw (alike.0.key, alike.0.end) (elim (p.0 == key) as (λ b.
      IsFolded f (all_given (cond b (p ∷ unbroken_row p.1.end ps) [])) (all_given (cond b (r ∷ unbroken_row p.1.end qs) []))
      × (cond b (first_gap p.1.end qs) key ≡ cond b (first_gap p.1.end ps) key)) [
        | true ↦ (followed_by-folded f _ _ _ _ alike.0.trace later.0, later.1)
        | false ↦ (folded-ending None, refl)
      ])
  unbroken_row-folded key ps qs alike = absurd alike

  insert-alike : (ps : List (Interval (Trace T))) (qs : List (Interval (Trace A))) (first end : ℕ) (p : Trace T) (q : Trace A) → AreRowsAlike ps qs
      → IsFolded f p q → AreRowsAlike (insert ps first end p) (insert qs first end q)
  insert-alike [] [] first end p q alike trace = (record { key = refl; end = refl; trace = trace }, tt)
  insert-alike (a ∷ ps) (b ∷ qs) first end p q alike trace =
      let r : Span (Trace T) = record { end = end; payload = p } in
      let s : Span (Trace A) = record { end = end; payload = q } in
      let one : AreAlike a (a.0, b.1) = record { key = refl; end = alike.0.end; trace = alike.0.trace } in
      rw alike.0.key (elim (nat_cmp first a.0) as (λ o. AreRowsAlike (match_ordering o ((first, r) ∷ a ∷ ps) ((a.0, r) ∷ ps) (a ∷ insert ps first end p))
      (match_ordering o ((first, s) ∷ (a.0, b.1) ∷ qs) ((a.0, s) ∷ qs) ((a.0, b.1) ∷ insert qs first end q))) [
        | Less ↦ (record { key = refl; end = refl; trace = trace }, (one, alike.1))
        | Equal ↦ (record { key = refl; end = refl; trace = trace }, alike.1)
        | Greater ↦ (one, insert-alike ps qs first end p q alike.1 trace)
      ])
  insert-alike ps bs first end p q alike trace = absurd alike

  module _ (lawful : IsFolding f) where
    result-folded : (r : ChunkResult T) (c : ChunkResult A) → IsFoldOf f r c → IsFolded f (result_trace r) (result_trace c)
    result-folded r c is =
        record { items = λ before. ap (fold f.combine (fold_of f before)) is.items ∙ lawful.joins before r.items.items; ending = ap run_ending is.ending }

    -- what waits for its keys, and what is given at once
    part-folded : (order : Order) (r : ChunkResult T) (c : ChunkResult A) → IsFoldOf f r c
        → IsFolded f (waiting_trace order r) (waiting_trace order c) × IsFolded f (at_once order r) (at_once order c)
    part-folded ByKey r c is = (result-folded r c is, folded-ending None)
    part-folded ByArrival r c is = (folded-ending None, result-folded r c is)

    placed_intervals-alike : (order : Order) (ps : List (Interval (Trace T))) (qs : List (Interval (Trace A))) (r : ChunkResult T) (c : ChunkResult A)
        → AreRowsAlike ps qs → IsFoldOf f r c → AreRowsAlike (placed_intervals order ps r) (placed_intervals order qs c)
    placed_intervals-alike order ps qs r c alike is =
        let v = waiting_trace order c in
        let at : (k n : ℕ) → k ≡ r.first → n ≡ r.count → AreRowsAlike (placed_intervals order ps r) (cond (n == 0) qs (insert qs k (k + n) v)) =
        λ k n first count. rw (first, count) (elim (r.count == 0) as (λ b.
        AreRowsAlike (cond b ps (insert ps r.first (end_of_result r) (waiting_trace order r))) (cond b qs (insert qs r.first (end_of_result r) v))) [
          | true ↦ alike
          | false ↦ insert-alike ps qs _ _ _ _ alike (part-folded order r c is).0
        ]) in
        at c.first c.count is.first is.count

    -- what of the results is placed, told and given at once, and what of their folds
    all-alike : (order : Order) (ps : List (Interval (Trace T))) (qs : List (Interval (Trace A))) (source_end : Option (ℕ × Ending))
        (rs : List (ChunkResult T)) (cs : List (ChunkResult A)) → AreRowsAlike ps qs → AreFoldsOf f rs cs
        → AreRowsAlike (all_placed order ps rs) (all_placed order qs cs) × (all_told source_end cs ≡ all_told source_end rs)
        × IsFolded f (arrived_trace order rs) (arrived_trace order cs)
    all-alike order ps qs source_end [] [] alike are = (alike, refl, folded-ending None)
    all-alike order ps qs source_end (r ∷ rs) (c ∷ cs) alike are =
        let later = all-alike order (placed_intervals order ps r) (placed_intervals order qs c) (option_or source_end (told_at (end_of_result r) r.tail))
        rs cs (placed_intervals-alike order ps qs r c alike are.0) are.1 in
        (later.0, rw (are.0.first, are.0.count, are.0.tail) later.1, followed_by-folded f _ _ _ _ (part-folded order r c are.0).1 later.2)
    all-alike order ps qs source_end rs cs alike are = absurd are

    -- what folded results merge to stands for what the results do
    pub merged_trace-folded : (order : Order) (rs : List (ChunkResult T)) (cs : List (ChunkResult A)) → AreFoldsOf f rs cs
        → IsFolded f (merged_trace order rs) (merged_trace order cs)
    merged_trace-folded order rs cs are =
        let all = all-alike order [] [] None rs cs tt are in
        let keys = unbroken_row-folded 0 (all_placed order [] rs) (all_placed order [] cs) all.0 in
        rw (all.1, keys.1) (followed_by-folded f _ _ _ _ all.2 (followed_by-folded f _ _ _ _ keys.0 (folded-ending _)))

  -- ---- the results that folds are of

  folds-offered : (rs : List (ChunkResult T)) (cs : List (ChunkResult A)) → AreFoldsOf f rs cs → (key : ℕ) → is_offered cs key ≡ is_offered rs key
  folds-offered [] [] are key = refl
  folds-offered (r ∷ rs) (c ∷ cs) are key = rw (are.0.first, are.0.count, folds-offered rs cs are.1 key)
  folds-offered rs cs are key = absurd are

  pub folds-apart : (rs : List (ChunkResult T)) (cs : List (ChunkResult A)) → AreFoldsOf f rs cs → AreApart cs → AreApart rs
  folds-apart [] [] are apart = tt
  folds-apart (r ∷ rs) (c ∷ cs) are apart =
      (λ key within. sym (folds-offered rs cs are.1 key) ∙ apart.0 key (rw (are.0.first, are.0.count) within), folds-apart rs cs are.1 apart.1)
  folds-apart rs cs are apart = absurd are

module _ {L T A O : Type 0} (f : Folding T A O) (meaning : L → Meaning T) (plan : Plan L) (t : Trace T) where
  abbrev IsFold : ChunkResult A → Type 0
  IsFold c = IsPart meaning (IsFoldOf f) plan t c

  -- the results that these are the folds of
  pub record AreUnfolded (cs : List (ChunkResult A)) : Type 0 where
    pub results : List (ChunkResult T)
    pub are : All (IsResult meaning plan t) results
    pub folds : AreFoldsOf f results cs

  pub unfolded : (cs : List (ChunkResult A)) → All IsFold cs → AreUnfolded cs
  unfolded [] are = record { results = []; are = All-nil (IsResult meaning plan t); folds = tt }
  unfolded (c ∷ cs) are =
      let one : IsFold c = All-head IsFold c cs are in
      let more = unfolded cs (All-tail IsFold c cs are) in
      record {
        results = one.result ∷ more.results;
        are = All-cons (IsResult meaning plan t) one.result more.results one.is more.are;
        folds = (one.made, more.folds);
      }
