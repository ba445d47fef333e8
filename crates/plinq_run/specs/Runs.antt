-- What a run delivers.
use Rattle.std.specs.Prelude.{◌≡◌, ℕ, List, Some, Result, Ok, Err}
use Rattle.plinq_source.specs.declared.ending.Ending.{Ending}
use Rattle.plinq_source.specs.Trace.{Trace}
use Rattle.plinq_merge.specs.Sending.{Leads, TakesBeginning, RefusesNext}
use Rattle.plinq_ops.specs.declared.merge_option.MergeOption.{MergeOption}
use Rattle.plinq_ops.specs.Batches.{batches}
use Rattle.plinq_run.specs.declared.run_fault.RunFault.{RunFault}
use Rattle.plinq_run.specs.declared.run_fault.RunFault.TheVariants.{Memory, Sink, Tickets, Thread, Incomplete, Cancelled}

-- the sink has taken exactly the batches of this answer, which has this ending
pub record HasRun {K T : Type 0} (accepts : K → List T → K → Type 0) (option : MergeOption) (u : Trace T) (s s' : K) (e : Ending) : Type 0 where
  pub delivered : Leads accepts s (batches option u) s'
  pub ending : u.ending ≡ Some e

-- why a run has no answer: the sink refused a batch with this code, its token stopped it, or there is another cause
pub data Cause : Type 0 where
  SinkRefused : ℕ → Cause
  Stopped : Cause
  Other : Cause

-- what a run's fault says of the batches that weren't delivered: the sink refused the next one, the token stopped the run, or
-- no more was tried for any other cause
abbrev pub cause_of : RunFault → Cause
cause_of (Sink code) = SinkRefused code
cause_of Memory = Other
cause_of Tickets = Other
cause_of Thread = Other
cause_of Incomplete = Other
cause_of Cancelled = Stopped

module _ {K T : Type 0} (accepts : K → List T → K → Type 0) (refuses : K → List T → ℕ → K → Type 0) where
  -- the sink has taken a beginning of these batches, and where that is the cause it refused the next one; without a token
  -- nothing stops a run
  abbrev pub BreaksFor : Cause → List (List T) → K → K → Type 0
  BreaksFor (SinkRefused code) bs s s' = RefusesNext accepts refuses s bs code s'
  BreaksFor Stopped bs s s' = ⊥
  BreaksFor Other bs s s' = TakesBeginning accepts s bs s'

-- the sink has taken a beginning of this answer's batches; where the fault says so, it refused the next one
abbrev pub HasBroken : {K T : Type 0} → (K → List T → K → Type 0) → (K → List T → ℕ → K → Type 0) → MergeOption → Trace T → K → K → RunFault → Type 0
HasBroken accepts refuses option u s s' fault = BreaksFor accepts refuses (cause_of fault) (batches option u) s s'

-- a run ended so, or broke off
abbrev pub Runs : {K T : Type 0} → (K → List T → K → Type 0) → (K → List T → ℕ → K → Type 0) → MergeOption → Trace T → K → K → Result Ending RunFault → Type 0
Runs accepts refuses option u s s' (Ok e) = HasRun accepts option u s s' e
Runs accepts refuses option u s s' (Err fault) = HasBroken accepts refuses option u s s' fault
