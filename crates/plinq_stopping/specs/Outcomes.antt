-- What a run with a token reports.
use Rattle.std.specs.Prelude.{◌≡◌, ℕ, List, Bool, true, false, Option, Result, Ok, Err}
use Rattle.plinq_source.specs.declared.ending.Ending.{Ending}
use Rattle.plinq_source.specs.Trace.{Trace}
use Rattle.plinq_aggregate.specs.Folding.{Folding}
use Rattle.plinq_ops.specs.declared.merge_option.MergeOption.{MergeOption}
use Rattle.plinq_ops.specs.Batches.{batches}
use Rattle.plinq_merge.specs.Sending.{TakesBeginning}
use Rattle.plinq_run.specs.declared.aggregate_fault.AggregateFault.{AggregateFault}
use Rattle.plinq_run.specs.declared.aggregate_fault.AggregateFault.TheVariants.{Ended, Run}
use Rattle.plinq_run.specs.declared.run_fault.RunFault.{RunFault}
use Rattle.plinq_run.specs.declared.run_fault.RunFault.TheVariants.{Sink, Cancelled}
use Rattle.plinq_run.specs.Aggregates.{Aggregates}
use Rattle.plinq_run.specs.Runs.{Other, cause_of, HasRun, HasBroken}
use Rattle.plinq_mapped.specs.Mapped.{made_of}
use Rattle.plinq_stopping.specs.Asking.{Lets, HasLet, HasStopped}

-- its token stopped an aggregate
abbrev pub is_stopped_aggregate : {O : Type 0} → Result O AggregateFault → Bool
is_stopped_aggregate (Ok out) = false
is_stopped_aggregate (Err (Ended e)) = false
is_stopped_aggregate (Err (Run Cancelled)) = true
is_stopped_aggregate (Err (Run fault)) = false

module _ {C : Type 0} (asks : C → ℕ → Bool → C → Type 0) where
  -- an aggregate of one of these answers, which the token let pass; or the token stopped it; or memory, a thread or tickets were short
  abbrev pub AggregatesWith : {T A O : Type 0} → Folding T A O → (Trace T → Type 0) → C → Result O AggregateFault → C → Type 0
  AggregatesWith {T} f IsAnswer c (Ok out) c' = (u : Trace T) × (IsAnswer u) × (Aggregates f u (Ok out)) × HasLet asks c c'
  AggregatesWith {T} f IsAnswer c (Err (Ended e)) c' = (u : Trace T) × (IsAnswer u) × (Aggregates f u (Err (Ended e))) × HasLet asks c c'
  AggregatesWith f IsAnswer c (Err (Run Cancelled)) c' = HasStopped asks c c'
  AggregatesWith f IsAnswer c (Err (Run fault)) c' = (cause_of fault ≡ Other) × Lets asks c c'

  -- the batches of what is made of one of these answers, which the token let pass; or a beginning of them, and then the token stopped
  -- the run, or it broke off for the reason that the fault gives
  abbrev pub RunsMadeOfWith : {K T B : Type 0} → (K → List B → K → Type 0) → (K → List B → ℕ → K → Type 0) → MergeOption
      → (T → Result (Option B) ℕ) → (Trace T → Type 0) → C → K → Result Ending RunFault → C → K → Type 0
  RunsMadeOfWith {K} {T} accepts refuses option makes IsAnswer c s (Ok e) c' s' =
      (u : Trace T) × (IsAnswer u) × (HasRun accepts option (made_of makes u) s s' e) × HasLet asks c c'
  RunsMadeOfWith {K} {T} accepts refuses option makes IsAnswer c s (Err Cancelled) c' s' =
      (u : Trace T) × (IsAnswer u) × (TakesBeginning accepts s (batches option (made_of makes u)) s') × HasStopped asks c c'
  RunsMadeOfWith {K} {T} accepts refuses option makes IsAnswer c s (Err (Sink code)) c' s' =
      (u : Trace T) × (IsAnswer u) × (HasBroken accepts refuses option (made_of makes u) s s' (Sink code)) × HasLet asks c c'
  RunsMadeOfWith {K} {T} accepts refuses option makes IsAnswer c s (Err fault) c' s' =
      (u : Trace T) × (IsAnswer u) × (HasBroken accepts refuses option (made_of makes u) s s' fault) × Lets asks c c'

-- ---- worked rows

-- a token that lets everything pass
abbrev lets_all : ℕ → ℕ → Bool → ℕ → Type 0
lets_all c n answer c' = answer ≡ false

-- it stops no aggregate
stopped_by_none : {T A O : Type 0} (f : Folding T A O) (IsAnswer : Trace T → Type 0) → AggregatesWith lets_all f IsAnswer 0 (Err (Run Cancelled)) 0 → ⊥
stopped_by_none f IsAnswer stopped = absurd (let bad : true ≡ false = stopped.asked in cc)

-- nor a run
run_stopped_by_none : {K T B : Type 0} (accepts : K → List B → K → Type 0) (refuses : K → List B → ℕ → K → Type 0) (option : MergeOption)
    (makes : T → Result (Option B) ℕ) (IsAnswer : Trace T → Type 0) (s s' : K)
    → RunsMadeOfWith lets_all accepts refuses option makes IsAnswer 0 s (Err Cancelled) 0 s' → ⊥
run_stopped_by_none accepts refuses option makes IsAnswer s s' stopped = absurd (let bad : true ≡ false = stopped.3.asked in cc)

-- a token that stops everything: no value is reported
abbrev stops_all : ℕ → ℕ → Bool → ℕ → Type 0
stops_all c n answer c' = answer ≡ true

value_all_the_same : {T A O : Type 0} (f : Folding T A O) (IsAnswer : Trace T → Type 0) (out : O) → AggregatesWith stops_all f IsAnswer 0 (Ok out) 0 → ⊥
value_all_the_same f IsAnswer out value = absurd (let bad : false ≡ true = value.3.asked in cc)
