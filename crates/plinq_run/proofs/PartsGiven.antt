-- A taker that was given the accumulators of what was merged was given those of an answer; and its value, where it combines them.
use Rattle.plinq_run.proofs.RunWords.{◌≡◌, ◌≤◌, ◌^◌, List, [], length, Bool, true, false, Option, Some, None, Result, Ok, Err, All, refl, list_any, sym, ◌∙◌}
use Rattle.plinq_run.proofs.RunWords.{ap, subst, All-weaker, Ending, End, SourceGhosts, Trace, Meaning, Folding, IsFolding, fold_of, all_shares, Op, Plan}
use Rattle.plinq_run.proofs.RunWords.{ChunkResult, MayAnswer, IsFed, is_empty_take, stages_of, IsPlanOf, QueryView, Stage, seq}
use Rattle.plinq_run.proofs.RunWords.{some_takes_none-stages_of, DeliveryFault, merged_trace, IsTaking, AreApart, IsUndecided, IsResult, IsPart, RunFault}
use Rattle.plinq_run.proofs.RunWords.{Breaks, Cause, Other, cause_of, IsFoldOf, merged_answer, MayMerge, IsOffered, IsFolded}
use Rattle.std.specs.Prelude.{not, ◌&&◌}
use Rattle.plinq_ops.specs.Pipeline.{IsReached, stages}
use Rattle.plinq_ops.proofs.{ByKey.stages-begun, Fed.undecided-left}
use Rattle.plinq_merge.specs.declared.delivery_fault.DeliveryFault.TheVariants.{Memory, Sink}
use Rattle.plinq_run.specs.declared.{fold_blocks.FoldBlocks.FoldBlocks, planning.Conducted.Conducted, combiner.Combiner.Combiner}
use Rattle.plinq_run.specs.{Parting.WasGiven, Parting.GivesSome, Aggregates.Aggregates, Aggregates.AggregatesSome}
use Rattle.plinq_run.specs.inner.{Blocks.can_fold, Blocks.Passes, Blocks.MadeBy, Conducted.HasConducted, Conducted.answer_ending, Standing.IsOver}
use Rattle.plinq_run.specs.inner.{Standing.given-none, Standing.given-past, Valuing.value_at, Valuing.value_of, Combining.MadeBy as CombinedBy}
use Rattle.plinq_run.proofs.Runs.{merged-may, begun-in, AsItIs, plain-part, planned-may, answer_so_far}
use Rattle.plinq_run.proofs.Folds.{merged_trace-folded, folds-apart, unfolded}

breaks-over : (how : Result (Option Ending) DeliveryFault) (cause : Cause) → Breaks how cause → IsOver how
breaks-over (Ok None) cause breaks = breaks
breaks-over (Ok (Some e)) cause breaks = tt
breaks-over (Err fault) cause breaks = tt

-- what is so of answers to some is so of answers to more
pub gives-weaker : {T A U W O : Type 0} (f : Folding T A U) (made : W → O → Trace A → Result (Option Ending) DeliveryFault → W → O → Type 0)
    (P Q : Trace T → Type 0) (a : W) (x : O) (r : Result Ending RunFault) (y : O)
    → ((u : Trace T) → P u → Q u) → GivesSome f made P a x r y → GivesSome f made Q a x r y
gives-weaker f made P Q a x (Ok e) y on h = (h.0, on h.0 h.1, h.2)
gives-weaker f made P Q a x (Err fault) y on h = (h.0, on h.0 h.1, h.2, h.3, h.4)

-- a plan gives of what its query may answer
pub planned-given : {L T A U W O : Type 0} (f : Folding T A U) (made : W → O → Trace A → Result (Option Ending) DeliveryFault → W → O → Type 0)
    (meaning : L → Meaning T) (q : QueryView L) (plan : Plan L) (t : Trace T) (a : W) (x : O)
    (r : Result Ending RunFault) (y : O) → IsPlanOf q plan → plan.decided ≡ false → GivesSome f made (MayMerge meaning plan t) a x r y
    → GivesSome f made (MayAnswer meaning q.ordered q.ops t) a x r y
planned-given f made meaning q plan t a x r y is undecided =
    gives-weaker f made (MayMerge meaning plan t) (MayAnswer meaning q.ordered q.ops t) a x r y
    (λ u. planned-may meaning q plan t u q.ordered refl is undecided)

-- a taker that can take gets to fold the blocks of operators that have seen nothing
pub begun-folds : {L T F W : Type 0} (meaning : L → Meaning T) (can_take : W → Bool) (d : FoldBlocks L F W) (ops : List (Op L))
    → IsReached meaning ops 0 d.pipeline → list_any is_empty_take ops ≡ false → can_take d.inner ≡ true
    → can_fold meaning can_take d ≡ true
begun-folds meaning can_take d ops reached some can =
    rw (stages-begun meaning ops d.pipeline reached, ← some_takes_none-stages_of meaning ops, some) can

-- and so where the answer is open after items that were fed
pub still-folds : {L T F W : Type 0} (meaning : L → Meaning T) (can_take : W → Bool) (d : FoldBlocks L F W) (ss : List (Stage T)) (t : Trace T) (out : List T)
    → IsFed ss t [] out (stages meaning d.pipeline) None
    → can_take d.inner ≡ true → can_fold meaning can_take d ≡ true
still-folds meaning can_take d ss t out fed can = ap (λ b. not b && can_take d.inner) (undecided-left ss (stages meaning d.pipeline) t [] out fed) ∙ can

module _ {L T A U W O : Type 0} (f : Folding T A U) (lawful : IsFolding f)
    (made : W → O → Trace A → Result (Option Ending) DeliveryFault → W → O → Type 0) (taking : IsTaking made)
    (meaning : L → Meaning T) (plan : Plan L) (t : Trace T) (few : length t.items ≤ 2 ^ 40) (undecided : IsUndecided plan) where
  -- a run that ends before anything was offered
  pub none-given : (a : W) (x : O) (fault : RunFault) → cause_of fault ≡ Other → GivesSome f made (MayMerge meaning plan t) a x (Err fault) x
  none-given a x fault is =
      let u : Trace T = merged_answer meaning plan t in
      (u, merged-may meaning plan t, Err Memory, given-none f lawful made taking u a x, is)

  -- what was given of the answer to the results is how an answer of the source begins
  given-some : (how : Result (Option Ending) DeliveryFault) (a : W) (x y : O) (results : List (ChunkResult T)) → All (IsResult meaning plan t) results
      → AreApart results → IsOver how
      → WasGiven f made (answer_so_far meaning plan results) a x how y → (u : Trace T) × (MayMerge meaning plan t u) × WasGiven f made u a x how y
  given-some how a x y results are apart over given =
      let begun = begun-in meaning plan t few undecided results are apart in
      let past = given-past f lawful made taking how (answer_so_far meaning plan results) a x y begun.rest over given in
      (begun.answer, begun.may, subst (λ v. WasGiven f made v a x how y) (sym begun.is) past)

  -- where what was taken of such parts is so of an answer of the source, a run that was conducted has given one
  module _ {V M : Type 0} (taken : V → O → Trace M → Result (Option Ending) DeliveryFault → V → O → Type 0) (P : ChunkResult M → Type 0) (first : V) (a : W)
      (x : O)
      (some : (how : Result (Option Ending) DeliveryFault) (offers : List (ChunkResult M)) (last : V) (y : O) → All P offers → AreApart offers → IsOver how
      → taken first x (merged_trace plan.order offers) how last y → (u : Trace T) × (MayMerge meaning plan t u) × WasGiven f made u a x how y) where
    conducted-given : {S : Type 0} {source : SourceGhosts S T} (r : Result (Conducted S V T source) RunFault) (y : O)
        → HasConducted taken P plan.order t first x r y
        → GivesSome f made (MayMerge meaning plan t) a x (answer_ending r) y
    conducted-given (Ok c) y h =
        let offered = IsOffered P (all_shares c.ended.partitions.items) in
        let ends = h.1 in
        some (Ok (Some c.ended.joined.ending)) ends.offers c.ended.joined.taker y (All-weaker offered P (λ c z. z.0) ends.offers ends.are) ends.apart tt
        ends.taken
    conducted-given (Err fault) y h =
        let given = some h.how h.offers h.last y h.are h.apart (breaks-over h.how (cause_of fault) h.breaks) h.taken in
        (given.0, given.1, h.how, given.2, h.breaks)

  -- workers that fold
  module _ (alone : plan.after.now ≡ []) (a : W) (x : O) where
    pub chunks-given : {S : Type 0} {source : SourceGhosts S T} (r : Result (Conducted S W T source) RunFault) (y : O)
        → HasConducted made (IsPart meaning (IsFoldOf f) plan t) plan.order t a x r y
        → GivesSome f made (MayMerge meaning plan t) a x (answer_ending r) y
    chunks-given r y h =
        conducted-given made (IsPart meaning (IsFoldOf f) plan t) a a x
        (λ how cs b z are apart over is. let un = unfolded f meaning plan t cs are in
        given-some how a x z un.results un.are (folds-apart f un.results cs un.folds apart) over
        (record {
          parts = merged_trace plan.order cs;
          folds = subst (λ ops. IsFolded f (seq (stages_of meaning ops) (merged_trace plan.order un.results)) (merged_trace plan.order cs)) (sym alone)
              (merged_trace-folded f lawful plan.order un.results cs un.folds);
          last = b;
          taken = is;
        })) r y h

  -- the caller's thread folds what leaves the operators after the merge
  module _ {F : Type 0} (folding : F → Folding T A U) (first : FoldBlocks L F W)
      (same : folding first.aggregator.now ≡ f) (begun : stages meaning first.pipeline ≡ stages_of meaning plan.after.now) (x : O) where
    passes-over : (g : Folding T A U) (how : Result (Option Ending) DeliveryFault) (now now' : List (Stage T)) (a : W) (v : Trace T) (b : W) (y : O)
        → IsOver how → Passes g made now a x v how now' b y
        → WasGiven g made (seq now v) a x how y
    passes-over g (Ok None) now now' a v b y over is = absurd over
    passes-over g how now now' a v b y over is = is

    pub blocks-given : {S : Type 0} {source : SourceGhosts S T} (r : Result (Conducted S (FoldBlocks L F W) T source) RunFault) (y : O)
        → HasConducted (MadeBy meaning folding made) (AsItIs meaning plan t) plan.order t first x r y
        → GivesSome f made (MayMerge meaning plan t) first.inner x (answer_ending r) y
    blocks-given r y h =
        conducted-given (MadeBy meaning folding made) (AsItIs meaning plan t) first first.inner x
        (λ how rs last z are apart over is.
        given-some how first.inner x z rs (All-weaker (AsItIs meaning plan t) (IsResult meaning plan t) (plain-part meaning plan t) rs are) apart over
        (rw (same, begun) at (passes-over (folding first.aggregator.now) how _ _ first.inner (merged_trace plan.order rs) last.inner z over is.passes)))
        r y h

-- ---- the value of parts that were combined

value-ended : {T A O : Type 0} (f : Folding T A O) (u : Trace T) (acc : A) (e : Ending) → u.ending ≡ Some e → acc ≡ fold_of f u.items
    → Aggregates f u (value_at f acc e)
value-ended f u acc End ends is = (ap f.tell is, ends)
value-ended f u acc e ends is = (ends, λ well. cc)

module _ {F T A O : Type 0} (folding : F → Folding T A O) (d : Combiner F) where
  -- no sink refuses
  breaks-other : (x : A) (parts : Trace A) (how : Result (Option Ending) DeliveryFault) (d' : Combiner F) (y : A) (cause : Cause)
      → CombinedBy folding d x parts how d' y → Breaks how cause → cause ≡ Other
  breaks-other x parts (Ok None) d' y cause made breaks = absurd breaks
  breaks-other x parts (Err (Sink code)) d' y cause made breaks = absurd made.combines
  breaks-other x parts how d' y cause made breaks = breaks

  pub value-given : (IsAnswer : Trace T → Type 0) (acc : A) (r : Result Ending RunFault)
      → GivesSome (folding d.aggregator.now) (CombinedBy folding) IsAnswer d (folding d.aggregator.now).seed r acc
      → AggregatesSome (folding d.aggregator.now) IsAnswer (value_of (folding d.aggregator.now) acc r)
  value-given IsAnswer acc (Ok e) (u, is, given) =
      (u, is, value-ended (folding d.aggregator.now) u acc e (sym given.folds.ending ∙ given.taken.combines.0) (given.taken.combines.1 ∙ given.folds.items []))
  value-given IsAnswer acc (Err fault) (u, is, how, given, breaks) =
      (u, is, breaks-other (folding d.aggregator.now).seed given.parts how given.last acc (cause_of fault) given.taken breaks)
