-- How a run ends: what was merged is how an answer begins, and all of it where the answer has ended; and what is reported then.
use Rattle.plinq_run.proofs.RunWords.{◌≡◌, ℕ, ◌≤◌, ◌^◌, List, [], ◌∷◌, length, Option, Some, None, Result, Ok, Err, All, refl, Bool, true, false, IfOk}
use Rattle.plinq_run.proofs.RunWords.{list_any, ◌++◌, sym, ◌∙◌, ap, subst, append-nil, arith, All-head, All-tail, All-weaker, Ending, Trace, followed_by}
use Rattle.plinq_run.proofs.RunWords.{ended_trace, SourceGhosts, End, Meaning, Record, in_ticket_order, all_shares, MergeOption, Order, ByKey, ByArrival, Plan}
use Rattle.plinq_run.proofs.RunWords.{ChunkResult, batches, batches_from, glue, stages_of, seq, Op, are_keyless, is_empty_take, IsRearranged, MayAnswer}
use Rattle.plinq_run.proofs.RunWords.{IsPlanOf, QueryView, answer_of, Stage, some_takes_none-stages_of, DeliveryFault, NoMemory, merged_trace, AreApart}
use Rattle.plinq_run.proofs.RunWords.{IsUndecided, IsResult, IsPart, RunFault, Ended, HasBrokenOff, Breaks, merged_answer, MayMerge, IsOffered, Covers, Reports}
use Rattle.plinq_run.proofs.RunWords.{HasRun, Cause, SinkRefused, Other, cause_of, BreaksFor, Report, handed_trace}
use Rattle.std.specs.Prelude.{IfErr}
use Rattle.plinq_source.proofs.Followed.{followed_by-ended}
use Rattle.plinq_partition.specs.GivenBack.{common_origin}
use Rattle.plinq_ops.specs.{Stage.seq_after, Batches.batch_size, Row.AreOffers, ByKey.is_by_key, Answer.Answer, Plan.order_of, Plan.worker_part}
use Rattle.plinq_ops.proofs.{Stages.seq-followed_by, Answered.answer-of_none, Glue.answer_of-split, Parts.worker-keyless}
use Rattle.plinq_ops.proofs.Answers.{IsRearranged-refl, Answer-rearranged, Answer-sequential}
use Rattle.plinq_merge.specs.{Deliveries.batches-first, Sending.IsCutOff, inner.Sent.cut-before}
use Rattle.plinq_merge.specs.declared.{delivery_fault.DeliveryFault.TheVariants.Sink as Refusal, deliver.Deliver.Deliver}
use Rattle.plinq_merge.specs.Delivering.{Line, line_of, Gives, MadeBy}
use Rattle.plinq_merge.proofs.Whole.{merged_trace-begins}
use Rattle.plinq_run.specs.{inner.Merged.HasEnded, inner.PlanAnswers.MayTake, Reports.IsBroken, inner.Reported.IsReportOf}
use Rattle.plinq_run.proofs.{Arrived.are-true_tails, Arrived.arrival-begins, Handed.result-covered, Handed.covers-handed}

-- what the operators after the merge make of what was merged
abbrev pub answer_so_far : {L T : Type 0} → (L → Meaning T) → Plan L → List (ChunkResult T) → Trace T
answer_so_far meaning plan offers = seq (stages_of meaning plan.after.now) (merged_trace plan.order offers)

module _ {L T : Type 0} (meaning : L → Meaning T) (plan : Plan L) (t : Trace T) where
  are-offers : (rs : List (ChunkResult T)) → All (IsResult meaning plan t) rs → AreOffers meaning plan.worker.now t rs
  are-offers [] are = tt
  are-offers (r ∷ rs) are = ((All-head (IsResult meaning plan t) r rs are).offer, are-offers rs (All-tail (IsResult meaning plan t) r rs are))

  -- the fragments of the source's items, in an order in which they may be taken, begin with what was merged
  taken-first : (order : Order) → plan.order ≡ order → length t.items ≤ 2 ^ 40 → IsUndecided plan → (offers : List (ChunkResult T))
      → All (IsResult meaning plan t) offers → AreApart offers
      → (taken : Trace T) × MayTake order t taken × (rest : Trace T) × (glue meaning plan.worker.now taken ≡ followed_by (merged_trace order offers) rest)
  taken-first ByKey by few undecided offers are apart =
      let begins = merged_trace-begins meaning plan.worker.now t few offers (are-offers offers are) (are-true_tails meaning plan t offers are) in
      (t, refl, begins.0, begins.1)
  taken-first ByArrival by few undecided offers are apart = arrival-begins meaning plan t few by (undecided.keyless by) offers are apart

  -- so what the operators after the merge make of it is how an answer of the source begins
  pub record HasBegun (offers : List (ChunkResult T)) : Type 0 where
    pub answer : Trace T
    pub may : MayMerge meaning plan t answer
    pub rest : Trace T
    pub is : answer ≡ followed_by (answer_so_far meaning plan offers) rest

  pub begun-in : length t.items ≤ 2 ^ 40 → IsUndecided plan → (offers : List (ChunkResult T)) → All (IsResult meaning plan t) offers → AreApart offers
      → HasBegun offers
  begun-in few undecided offers are apart =
      let (taken, may, rest, is) = taken-first plan.order refl few undecided offers are apart in
      let ss : List (Stage T) = stages_of meaning plan.after.now in
      record {
        answer = merged_answer meaning plan taken;
        may = record { taken = taken; may = may; is = refl };
        rest = seq (seq_after ss (merged_trace plan.order offers)) rest;
        is = ap (seq ss) is ∙ seq-followed_by ss (merged_trace plan.order offers) rest;
      }

  -- and all of one, where it has ended
  ended-may : (e : Ending) → length t.items ≤ 2 ^ 40 → IsUndecided plan → (offers : List (ChunkResult T)) → All (IsResult meaning plan t) offers
      → AreApart offers → (answer_so_far meaning plan offers).ending ≡ Some e → MayMerge meaning plan t (answer_so_far meaning plan offers)
  ended-may e few undecided offers are apart ends =
      let begun = begun-in few undecided offers are apart in
      subst (MayMerge meaning plan t) (begun.is ∙ followed_by-ended (answer_so_far meaning plan offers) begun.rest e ends) begun.may

-- what begins to deliver the answer of this plan
abbrev pub begun_line : {L T : Type 0} → (L → Meaning T) → Plan L → MergeOption → Line T
begun_line meaning plan option =
    record { after = stages_of meaning plan.after.now; now = stages_of meaning plan.after.now; held = []; size = batch_size option }

-- what is sent as it is
abbrev pub AsItIs : {L T : Type 0} → (L → Meaning T) → Plan L → Trace T → ChunkResult T → Type 0
AsItIs meaning plan t = IsPart meaning (λ r c. c ≡ r) plan t

pub plain-part : {L T : Type 0} (meaning : L → Meaning T) (plan : Plan L) (t : Trace T) (r : ChunkResult T)
    → AsItIs meaning plan t r → IsResult meaning plan t r
plain-part meaning plan t r h = subst (IsResult meaning plan t) (sym h.made) h.is

-- a plan answers what the query does
planned-answer : {L T : Type 0} (meaning : L → Meaning T) (q : QueryView L) (plan : Plan L) (t : Trace T) → IsPlanOf q plan → plan.decided ≡ false
    → merged_answer meaning plan t ≡ answer_of meaning q.ops t
planned-answer meaning q plan t is undecided =
    rw (is.after, is.worker) (sym (answer_of-split meaning (order_of q.ordered) q.ops t (sym is.decided ∙ undecided)))

-- a plan answers what the query may
pub planned-may : {L T : Type 0} (meaning : L → Meaning T) (q : QueryView L) (plan : Plan L) (t u : Trace T) (ordered : Bool)
    → q.ordered ≡ ordered → IsPlanOf q plan → plan.decided ≡ false → MayMerge meaning plan t u → MayAnswer meaning ordered q.ops t u
planned-may meaning q plan t u true ordered is undecided may =
    let same : may.taken ≡ t = subst (λ o. MayTake o t may.taken) (is.order ∙ ap order_of ordered) may.may in
    may.is ∙ ap (merged_answer meaning plan) same ∙ planned-answer meaning q plan t is undecided
planned-may meaning q plan t u false ordered is undecided may =
    let any : IsRearranged t may.taken = subst (λ o. MayTake o t may.taken) (is.order ∙ ap order_of ordered) may.may in
    subst (λ v. Answer meaning false q.ops t v) (sym (may.is ∙ planned-answer meaning q plan may.taken is undecided))
    (Answer-rearranged meaning q.ops t may.taken any)

module _ {L T K : Type 0} (meaning : L → Meaning T) (q : QueryView L) (plan : Plan L) (is_plan : IsPlanOf q plan) (option : MergeOption)
    (undecided : IsUndecided plan) (t : Trace T) (few : length t.items ≤ 2 ^ 40)
    (accepts : K → List T → K → Type 0) (refuses : K → List T → ℕ → K → Type 0) where
  abbrev May : Trace T → Trace T → Type 0
  May = MayAnswer meaning q.ordered q.ops

  may-answer : (x u : Trace T) → MayMerge meaning plan x u → May x u
  may-answer x u = planned-may meaning q plan x u q.ordered refl is_plan undecided.undecided

  -- an answer was delivered, and what has all that these records hand out has it too
  record IsWhole (records : List Record) (s s' : K) (e : Ending) : Type 0 where
    answer : Trace T
    may : May t answer
    accounts : (first : Trace T) → Covers t records first → May first answer
    has_run : HasRun accepts option answer s s' e

  short-of : (s : K) (offers : List (ChunkResult T)) (fault : DeliveryFault) (s' : K) (run_fault : RunFault) (cause : Cause)
      → All (IsResult meaning plan t) offers → AreApart offers
      → IsCutOff accepts refuses s (batches_from (batch_size option) [] (answer_so_far meaning plan offers)) fault s'
      → ((bs : List (List T)) → IsCutOff accepts refuses s bs fault s' → BreaksFor accepts refuses cause bs s s') → cause_of run_fault ≡ cause
      → IsBroken accepts refuses option May t s s' run_fault
  short-of s offers fault s' run_fault cause are apart short on is =
      let begun = begun-in meaning plan t few undecided offers are apart in
      let so_far : Trace T = answer_so_far meaning plan offers in
      let first = batches-first (batch_size option) [] so_far begun.rest in
      let all : batches option begun.answer ≡ batches_from (batch_size option) [] so_far ++ first.0 =
      ap (batches_from (batch_size option) []) begun.is ∙ first.1 in
      let sent = cut-before accepts refuses s (batches_from (batch_size option) [] so_far) first.0 fault s' short in
      record { answer = begun.answer; may = may-answer t begun.answer begun.may; broken = rw is (on (batches option begun.answer) (rw all sent)) }

  -- where parts were merged that were sent as they are
  module _ (first : Deliver L T) (begun : line_of meaning first ≡ begun_line meaning plan option) where
    whole-delivered : {S U : Type 0} {source : SourceGhosts S U} (s s' : K) (ended : Ended S (Deliver L T) U source)
        → HasEnded (MadeBy accepts refuses meaning) (AsItIs meaning plan t) plan.order first s ended s'
        → IsWhole (all_shares ended.partitions.items) s s' ended.joined.ending
    whole-delivered s s' ended h =
        let records = all_shares ended.partitions.items in
        let gives =
        subst (λ l. Gives accepts refuses l s (merged_trace plan.order h.offers) (Ok (Some ended.joined.ending)) (line_of meaning ended.joined.taker) s') begun
        h.taken.gives in
        let answer : Trace T = answer_so_far meaning plan h.offers in
        let may : (v : Trace T) → length v.items ≤ 2 ^ 40 → ((r : ChunkResult T) → IsOffered (AsItIs meaning plan t) records r → IsResult meaning plan v r)
        → May v answer =
        λ v small results. may-answer v answer (ended-may meaning plan v ended.joined.ending small undecided h.offers
        (All-weaker (IsOffered (AsItIs meaning plan t) records) (IsResult meaning plan v) results h.offers h.are) h.apart gives.0) in
        record {
          answer = answer;
          may = may t few (λ r x. plain-part meaning plan t r x.0);
          accounts = λ first covers. may first (omega (arith, few, covers.within))
              (λ r x. result-covered meaning plan t first records r few covers (plain-part meaning plan t r x.0, x.1));
          has_run = record { delivered = gives.1; ending = gives.0 };
        }

    -- the report of a run is of the same answer, which its records account for
    pub whole-reported : {S : Type 0} {source : SourceGhosts S T} (s s' : K) (ended : Ended S (Deliver L T) T source) (b : Result Report RunFault)
        → HasEnded (MadeBy accepts refuses meaning) (AsItIs meaning plan t) plan.order first s ended s' → common_origin ended.partitions.items ≡ t
        → IfOk b (IsReportOf ended.joined.ending ended.partitions.items) → IfErr b (λ fault. cause_of fault ≡ Other)
        → Reports accepts refuses option May t s s' b
    whole-reported s s' ended (Ok r) h origin is cause =
        let records = all_shares ended.partitions.items in
        let whole = whole-delivered s s' ended h in
        record {
          answer = whole.answer;
          may = whole.may;
          accounts = rw is.records (whole.accounts (handed_trace t (in_ticket_order records)) (covers-handed t records (rw (← is.records, ← origin) is.legal)));
          has_run = rw is.ending whole.has_run;
        }
    whole-reported s s' ended (Err f) h origin is cause =
        let whole = whole-delivered s s' ended h in
        let all = batches option whole.answer in
        record { answer = whole.answer; may = whole.may; broken = rw cause (all, [], sym (append-nil all), whole.has_run.delivered) }

    -- or the run was broken off
    broken-by : (how : Result (Option Ending) DeliveryFault) (s s' : K) (run_fault : RunFault) (offers : List (ChunkResult T)) (l' : Line T)
        → All (IsResult meaning plan t) offers → AreApart offers
        → Gives accepts refuses (begun_line meaning plan option) s (merged_trace plan.order offers) how l' s' → Breaks how (cause_of run_fault)
        → IsBroken accepts refuses option May t s s' run_fault
    broken-by (Ok None) s s' run_fault offers l' are apart gives breaks = absurd breaks
    broken-by (Ok (Some e)) s s' run_fault offers l' are apart gives breaks =
        let all : List (List T) = batches_from (batch_size option) [] (answer_so_far meaning plan offers) in
        short-of s offers NoMemory s' run_fault Other are apart (all, [], sym (append-nil all), gives.1) (λ bs x. x) breaks
    broken-by (Err NoMemory) s s' run_fault offers l' are apart gives breaks = short-of s offers NoMemory s' run_fault Other are apart gives (λ bs x. x) breaks
    broken-by (Err (Refusal code)) s s' run_fault offers l' are apart gives breaks =
        short-of s offers (Refusal code) s' run_fault (SinkRefused code) are apart gives (λ bs x. x) breaks

    pub broken-reported : (s s' : K) (fault : RunFault) → HasBrokenOff (MadeBy accepts refuses meaning) (AsItIs meaning plan t) plan.order first s fault s'
        → IsBroken accepts refuses option May t s s' fault
    broken-reported s s' fault h =
        broken-by h.how s s' fault h.offers (line_of meaning h.last)
        (All-weaker (AsItIs meaning plan t) (IsResult meaning plan t) (plain-part meaning plan t) h.offers h.are) h.apart
        (subst (λ l. Gives accepts refuses l s (merged_trace plan.order h.offers) h.how (line_of meaning h.last) s') begun h.taken.gives) h.breaks

-- ---- what is reported

-- the order of the source always may be
may-same : {T : Type 0} (order : Order) (t : Trace T) → MayTake order t t
may-same ByKey t = refl
may-same ByArrival t = IsRearranged-refl t

-- there always is an answer
pub merged-may : {L T : Type 0} (meaning : L → Meaning T) (plan : Plan L) (t : Trace T) → MayMerge meaning plan t (merged_answer meaning plan t)
merged-may meaning plan t = record { taken = t; may = may-same plan.order t; is = refl }

-- by arrival the workers look at no keys
planned-keyless : {L : Type 0} (q : QueryView L) (plan : Plan L) → IsPlanOf q plan → plan.order ≡ ByArrival → are_keyless plan.worker.now ≡ true
planned-keyless {L} q plan is by =
    ap are_keyless is.worker ∙ ap (λ o. are_keyless (worker_part o q.ops)) (sym is.order ∙ by) ∙ worker-keyless q.ops

-- the plan of a query that isn't decided needs workers
pub planned-undecided : {L : Type 0} (q : QueryView L) (plan : Plan L) → IsPlanOf q plan → is_by_key plan.worker.now ≡ true
    → (plan.decided ≡ false → (list_any is_empty_take plan.worker.now ≡ false) × (list_any is_empty_take plan.after.now ≡ false))
    → plan.decided ≡ false → IsUndecided plan
planned-undecided q plan is keyed parts undecided =
    record { keyed = keyed; worker = (parts undecided).0; after = (parts undecided).1; undecided = undecided; keyless = planned-keyless q plan is }

-- what one thread answers may be answered
pub may-sequential : {L T : Type 0} (meaning : L → Meaning T) (ordered : Bool) (ops : List (Op L)) (t : Trace T)
    → MayAnswer meaning ordered ops t (answer_of meaning ops t)
may-sequential meaning true ops t = refl
may-sequential meaning false ops t = Answer-sequential meaning false ops t

-- a decided query answers nothing
pub decided-may : {L T : Type 0} (meaning : L → Meaning T) (ordered : Bool) (ops : List (Op L)) (t u : Trace T)
    → list_any is_empty_take ops ≡ true → u ≡ ended_trace [] End → MayAnswer meaning ordered ops t u
decided-may meaning ordered ops t u some is =
    subst (MayAnswer meaning ordered ops t) (answer-of_none (stages_of meaning ops) t (sym (some_takes_none-stages_of meaning ops) ∙ some) ∙ sym is)
    (may-sequential meaning ordered ops t)
