-- By arrival: what results give is how the glued fragments of the source's items in some order begin. The items that are left where
-- some were taken by their places are with these all items in another order.
use Rattle.plinq_run.proofs.RunWords.{◌≡◌, ℕ, ◌+◌, ◌<◌, ◌≤◌, ◌^◌, ◌==◌, ◌⊎◌, List, [], ◌∷◌, ◌++◌, length, take, drop, true, false, cond, Option, Some, None}
use Rattle.plinq_run.proofs.RunWords.{All, refl, Bool, ◌||◌, IsPermutation, IfSome, sym, ◌∙◌, ap, subst, inl, inr, arith, append_assoc, All-head, All-tail}
use Rattle.plinq_run.proofs.RunWords.{take-append-drop, length-take-le, length-drop, IsPermutation-refl, IsPermutation-trans, All-weaker, Ending, Trace}
use Rattle.plinq_run.proofs.RunWords.{open_trace, followed_by, Meaning, Op, ByArrival, Plan, ChunkResult, IsRearranged, result_trace, glue, are_keyless, EndsAt}
use Rattle.plinq_run.proofs.RunWords.{end_of_result, Interval, unbroken_row, first_gap, is_offered, all_placed, all_told, all_given}
use Rattle.plinq_run.proofs.RunWords.{arrived_trace, merged_trace, AreApart, IsResult}
use Rattle.std.proofs.lemmas.Bool.{or_parts, or_from, false_from_ne_true}
use Rattle.std.proofs.lemmas.List.Sorted.{IsPermutation-append_comm, IsPermutation-append_left}
use Rattle.plinq_source.proofs.Followed.{trace_of, followed_by-open_nil}
use Rattle.plinq_ops.specs.Fragment.{glued_trace}
use Rattle.plinq_ops.proofs.{Keyless.glued_trace-keyless, Cut.undropped-uncut, Cut.result-is, Glue.glued_trace-append, Glue.chunk_answer-uncut}
use Rattle.plinq_reorder.specs.Intervals.{is_within}
use Rattle.plinq_reorder.proofs.{Keys.same_key, Keys.within-from, Keys.not_within-before, Keys.not_within-after, Gap.All-unbroken_row, Gap.gap-covered}
use Rattle.plinq_merge.specs.{OfferedKeys.AreNew, Whole.AreTrueTails, Shown.ending_at, Shown.row}
use Rattle.plinq_merge.proofs.{Holds.nothing-placed, Holds.nothing-given, Holds.is_offered-append, Whole.told-true, Whole.placed-all}

-- the items that aren't at these places, counted from k
abbrev pub without : {T : Type 0} → (ℕ → Bool) → ℕ → List T → List T
without p k [] = []
without p k (x ∷ xs) = cond (p k) (without p (k + 1) xs) (x ∷ without p (k + 1) xs)

pub without-append : {T : Type 0} (p : ℕ → Bool) (k : ℕ) (xs ys : List T) → without p k (xs ++ ys) ≡ without p k xs ++ without p (k + length xs) ys
without-append p k [] ys = let same : k + 0 ≡ k = omega arith in rw same
without-append p k (x ∷ xs) ys =
    let place : k + length (x ∷ xs) ≡ (k + 1) + length xs = omega arith in
    let rest : List _ = without p ((k + 1) + length xs) ys in
    let here = without p (k + 1) xs in
    rw (place, without-append p (k + 1) xs ys) (elim (p k) as (λ v. cond v (here ++ rest) (x ∷ here ++ rest) ≡ cond v here (x ∷ here) ++ rest) [
      | true ↦ refl
      | false ↦ refl
    ])

-- places that are the same among those of the items
pub without-as : {T : Type 0} (p q : ℕ → Bool) (k : ℕ) (xs : List T) → ((j : ℕ) → k ≤ j → j < k + length xs → p j ≡ q j) → without p k xs ≡ without q k xs
without-as p q k [] same = refl
without-as p q k (x ∷ xs) same =
    ap (λ v. cond v (without p (k + 1) xs) (x ∷ without p (k + 1) xs)) (same k (omega arith) (omega arith))
    ∙ ap (λ zs. cond (q k) zs (x ∷ zs)) (without-as p q (k + 1) xs (λ j from below. same j (omega arith) (omega arith)))

without-none : {T : Type 0} (k : ℕ) (xs : List T) → without (λ _. false) k xs ≡ xs
without-none k [] = refl
without-none k (x ∷ xs) = ap (λ zs. x ∷ zs) (without-none (k + 1) xs)

-- nothing is left where all were taken
pub without-all : {T : Type 0} (p : ℕ → Bool) (k : ℕ) (xs : List T) → ((j : ℕ) → k ≤ j → j < k + length xs → p j ≡ true) → without p k xs ≡ []
without-all p k [] all = refl
without-all p k (x ∷ xs) all =
    rw (all k (omega arith) (omega arith)) (without-all p (k + 1) xs (λ j from below. all j (omega arith) (omega arith)))

-- ---- results

-- the items of results, in the order of these
abbrev pub taken_by : {T : Type 0} → List T → List (ChunkResult T) → List T
taken_by xs [] = []
taken_by xs (r ∷ rs) = take r.count (drop r.first xs) ++ taken_by xs rs

-- a result is of items that there are
abbrev pub IsWithin : {T : Type 0} → List T → ChunkResult T → Type 0
IsWithin xs r = end_of_result r ≤ length xs

-- one result more, no key of which was offered, is taken from what is left
without-result : {T : Type 0} (xs : List T) (r : ChunkResult T) (rs : List (ChunkResult T)) → end_of_result r ≤ length xs → AreNew rs r
    → (before : List T) × (end : List T) × (without (is_offered rs) 0 xs ≡ before ++ (take r.count (drop r.first xs) ++ end))
    × (without (is_offered (r ∷ rs)) 0 xs ≡ before ++ end)
without-result {T} xs r rs within new =
    let f : ℕ = r.first in
    let c : ℕ = r.count in
    let A : List T = take f xs in
    let S : List T = take c (drop f xs) in
    let B : List T = drop c (drop f xs) in
    let few : f ≤ length xs = omega (arith, within) in
    let size_a : length A ≡ f = length-take-le f xs few in
    let size_s : length S ≡ c = length-take-le c (drop f xs) (omega (arith, within, length-drop f xs)) in
    let parts : xs ≡ A ++ (S ++ B) = sym (take-append-drop f xs) ∙ ap (λ ys. A ++ ys) (sym (take-append-drop c (drop f xs))) in
    let from_a : 0 + length A ≡ f = omega (arith, size_a) in
    let split : (p : ℕ → Bool) → without p 0 xs ≡ without p 0 A ++ (without p f S ++ without p (f + c) B) =
    λ p. ap (without p 0) parts ∙ without-append p 0 A (S ++ B) ∙ rw (from_a, without-append p f S B, size_s) in
    let old : ℕ → Bool = is_offered rs in
    let all : ℕ → Bool = is_offered (r ∷ rs) in
    let free : without old f S ≡ S =
    without-as old (λ _. false) f S (λ j from below. new j (within-from f (f + c) j from (omega (arith, below, size_s)))) ∙ without-none f S in
    let gone : without all f S ≡ [] =
    without-all all f S (λ j from below. ap (λ v. v || is_offered rs j) (within-from f (f + c) j from (omega (arith, below, size_s)))) in
    let same_a : without all 0 A ≡ without old 0 A =
    without-as all old 0 A (λ j from below. ap (λ v. v || is_offered rs j) (not_within-before f (f + c) j (omega (arith, below, size_a)))) in
    let same_b : without all (f + c) B ≡ without old (f + c) B =
    without-as all old (f + c) B (λ j from below. ap (λ v. v || is_offered rs j) (not_within-after f (f + c) j from)) in (
      without old 0 A,
      without old (f + c) B,
      split old ∙ rw free,
      split all ∙ rw (gone, same_a, same_b),
    )

moved-front : {T : Type 0} (w a s b : List T) → IsPermutation (w ++ (a ++ (s ++ b))) ((s ++ w) ++ (a ++ b))
moved-front w a s b =
    rw (← append_assoc w a (s ++ b), ← append_assoc (w ++ a) s b, ← append_assoc (s ++ w) a b, append_assoc s w a)
    (IsPermutation-append_left b ((w ++ a) ++ s) (s ++ (w ++ a)) (IsPermutation-append_comm (w ++ a) s))

-- what results that are apart take of some items, and what is left, are these items in another order
pub rearranged-taken : {T : Type 0} (xs : List T) (rs : List (ChunkResult T)) → All (IsWithin xs) rs → AreApart rs
    → IsPermutation xs (taken_by xs rs ++ without (is_offered rs) 0 xs)
rearranged-taken xs [] within apart = rw (without-none 0 xs) (IsPermutation-refl xs)
rearranged-taken {T} xs (r ∷ rs) within apart =
    let S : List T = take r.count (drop r.first xs) in
    let W : List T = taken_by xs rs in
    let place = without-result xs r rs (All-head (IsWithin xs) r rs within) apart.0 in
    let before = rw place.2 at (rearranged-taken xs rs (All-tail (IsWithin xs) r rs within) apart.1) in
    rw place.3 (IsPermutation-trans xs _ ((S ++ W) ++ (place.0 ++ place.1)) before (moved-front W place.0 S place.1))

-- ---- results that are apart, and one more

pub apart-push : {T : Type 0} (offers : List (ChunkResult T)) (r : ChunkResult T) → AreApart offers → AreNew offers r → AreApart (offers ++ r ∷ [])
apart-push [] r apart new = (λ key within. refl, tt)
apart-push (q ∷ qs) r apart new = (
  λ key within. is_offered-append qs r key
      ∙ or_from (is_offered qs key) _ (apart.0 key within) (false_from_ne_true _ (λ there. let bad : true ≡ false = twice key within there in cc)),
  apart-push qs r apart.1 (λ key within. (or_parts (is_within q.first (end_of_result q) key) (is_offered qs key) (new key within)).1),
)
  where
    twice : (key : ℕ) → is_within q.first (end_of_result q) key ≡ true → is_within r.first (end_of_result r) key ≡ true → true ≡ false
    twice key within there = sym within ∙ (or_parts (is_within q.first (end_of_result q) key) (is_offered qs key) (new key there)).0

-- ---- what arrived

module _ {L T : Type 0} (meaning : L → Meaning T) (plan : Plan L) (t : Trace T) where
  pub are-true_tails : (rs : List (ChunkResult T)) → All (IsResult meaning plan t) rs → AreTrueTails t rs
  are-true_tails [] are = tt
  are-true_tails (r ∷ rs) are = ((All-head (IsResult meaning plan t) r rs are).tail, are-true_tails rs (All-tail (IsResult meaning plan t) r rs are))

module _ {L T : Type 0} (meaning : L → Meaning T) (plan : Plan L) (t : Trace T) (few : length t.items ≤ 2 ^ 40) (by : plan.order ≡ ByArrival)
    (keyless : are_keyless plan.worker.now ≡ true) where
  abbrev worker : List (Op L)
  worker = plan.worker.now

  -- a result that nothing was cut off gives its items' fragments
  result-glued_trace : (r : ChunkResult T) → IsResult meaning plan t r
      → result_trace r ≡ glued_trace meaning worker 0 (take r.count (drop r.first t.items)) None
  result-glued_trace r is =
      let offer = is.offer in
      let xs : List T = offer.chunk.items.items in
      let above : offer.chunk.first + length xs ≤ offer.cut + 1 = omega (arith, is.uncut by, few, offer.within) in
      let items : xs ≡ take r.count (drop r.first t.items) =
      offer.items ∙ ap (λ n. take n (drop offer.chunk.first t.items)) (sym offer.made.count) ∙ ap (λ k. take r.count (drop k t.items)) (sym offer.made.first) in
      (result-is meaning worker offer.cut offer.chunk r offer.made (undropped-uncut meaning worker offer.cut offer.chunk.first xs above)).0
      ∙ chunk_answer-uncut meaning worker offer.cut offer.chunk.first xs above
      ∙ glued_trace-keyless meaning worker offer.chunk.first 0 xs None keyless
      ∙ ap (λ ys. glued_trace meaning worker 0 ys None) items

  arrived_trace-glued_trace : (rs : List (ChunkResult T)) → All (IsResult meaning plan t) rs
      → arrived_trace ByArrival rs ≡ glued_trace meaning worker 0 (taken_by t.items rs) None
  arrived_trace-glued_trace [] are = refl
  arrived_trace-glued_trace (r ∷ rs) are =
      let xs : List T = take r.count (drop r.first t.items) in
      let ys : List T = taken_by t.items rs in
      ap (λ u. followed_by u (arrived_trace ByArrival rs)) (result-glued_trace r (All-head (IsResult meaning plan t) r rs are))
      ∙ ap (followed_by (glued_trace meaning worker 0 xs None)) (arrived_trace-glued_trace rs (All-tail (IsResult meaning plan t) r rs are)
      ∙ glued_trace-keyless meaning worker 0 (0 + length xs) ys None keyless)
      ∙ sym (glued_trace-append meaning worker 0 xs ys None)

-- ---- the row of keys: nothing but the source's ending, where all keys before it were offered

module _ {T : Type 0} (offers : List (ChunkResult T)) where
  -- the row has come to the source's ending
  record HasCome (source_end : Option (ℕ × Ending)) (u : Trace T) : Type 0 where
    pub place : ℕ × Ending
    pub end_is : source_end ≡ Some place
    pub is : u ≡ trace_of [] (Some place.1)
    pub keys : (k : ℕ) → k < place.0 → is_offered offers k ≡ true

  abbrev Comes : Option (ℕ × Ending) → Trace T → Type 0
  Comes source_end u = (u ≡ open_trace []) ⊎ HasCome source_end u

  gap-comes : (source_end : Option (ℕ × Ending)) (gap : ℕ) → ((k : ℕ) → k < gap → is_offered offers k ≡ true)
      → Comes source_end (trace_of [] (ending_at source_end gap))
  gap-comes None gap keys = inl refl
  gap-comes (Some at) gap keys =
      elim (at.0 == gap) as (λ v. v ≡ (at.0 == gap) → Comes (Some at) (trace_of [] (cond v (Some at.1) None))) [
        | true ↦ λ test. inr (record { place = at; end_is = refl; is = refl; keys = λ k below. keys k (omega (arith, same_key at.0 gap (sym test), below)) })
        | false ↦ λ test. inl refl
      ] refl

  row-comes : AreApart offers → Comes (all_told None offers) (row (all_told None offers) 0 (all_placed ByArrival [] offers))
  row-comes apart =
      let source_end : Option (ℕ × Ending) = all_told None offers in
      let ps : List (Interval (Trace T)) = all_placed ByArrival [] offers in
      let gap : ℕ = first_gap 0 ps in
      let stand = placed-all ByArrival [] offers refl apart (λ key there. refl) in
      let none : all_given (unbroken_row 0 ps) ≡ open_trace [] =
      nothing-given (unbroken_row 0 ps) (All-unbroken_row (λ p. p.1.payload ≡ open_trace []) 0 ps (nothing-placed offers)) in
      let is : trace_of [] (ending_at source_end gap) ≡ row source_end 0 ps = ap (λ u. followed_by u (trace_of [] (ending_at source_end gap))) (sym none) in
      subst (Comes source_end) is (gap-comes source_end gap (λ k below. sym (stand.keys k) ∙ gap-covered 0 ps k (omega arith) below))

-- what was merged by arrival is how the fragments of the items in some order begin
pub arrival-begins : {L T : Type 0} (meaning : L → Meaning T) (plan : Plan L) (t : Trace T) → length t.items ≤ 2 ^ 40 → plan.order ≡ ByArrival
    → are_keyless plan.worker.now ≡ true
    → (offers : List (ChunkResult T)) → All (IsResult meaning plan t) offers → AreApart offers
    → (taken : Trace T) × IsRearranged t taken × (rest : Trace T) × (glue meaning plan.worker.now taken ≡ followed_by (merged_trace ByArrival offers) rest)
arrival-begins {L} {T} meaning plan t few by keyless offers are apart =
    let ws : List (Op L) = plan.worker.now in
    let xs : List T = taken_by t.items offers in
    let left : List T = without (is_offered offers) 0 t.items in
    let taken : Trace T = record { items = xs ++ left; ending = t.ending } in
    let first : Trace T = arrived_trace ByArrival offers in
    let source_end : Option (ℕ × Ending) = all_told None offers in
    let keys : Trace T = row source_end 0 (all_placed ByArrival [] offers) in
    let rest : Trace T = glued_trace meaning ws (0 + length xs) left t.ending in
    let within = All-weaker (IsResult meaning plan t) (IsWithin t.items) (λ r is. is.within) offers are in
    let any : IsRearranged t taken = record { items = rearranged-taken t.items offers within apart; ending = refl } in
    let all : glue meaning ws taken ≡ followed_by first rest =
    glued_trace-append meaning ws 0 xs left t.ending
    ∙ ap (λ u. followed_by u rest) (sym (arrived_trace-glued_trace meaning plan t few by keyless offers are)) in
    elim (row-comes offers apart) [
      | inl none ↦
          let same : followed_by first keys ≡ first = ap (followed_by first) none ∙ followed_by-open_nil first in
          (taken, any, rest, all ∙ ap (λ u. followed_by u rest) (sym same))
      | inr come ↦
          let tells : IfSome source_end (EndsAt t) = told-true t None offers tt (are-true_tails meaning plan t offers are) in
          let ends : EndsAt t come.place = subst (λ o. IfSome o (EndsAt t)) come.end_is tells in
          let gone : left ≡ [] = without-all (is_offered offers) 0 t.items (λ j from below. come.keys j (omega (arith, below, ends.0))) in
          let same : rest ≡ keys =
          ap (λ ys. glued_trace meaning ws (0 + length xs) ys t.ending) gone ∙ ap (λ e. trace_of [] e) ends.1 ∙ sym come.is in
          (taken, any, open_trace [], all ∙ ap (followed_by first) same ∙ sym (followed_by-open_nil (followed_by first keys)))
    ]
