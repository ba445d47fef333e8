-- What a run that may be cancelled has delivered, seen from its sink alone.
use Rattle.std.specs.Prelude.{◌≡◌, ℕ, ◌<◌, List, ◌++◌, length, Option, Some, IfSome, Result, Ok, Err}
use Rattle.plinq_source.specs.Trace.{Trace}
use Rattle.plinq_merge.specs.Sending.{Leads}
use Rattle.plinq_ops.specs.declared.merge_option.MergeOption.{MergeOption}
use Rattle.plinq_ops.specs.Batches.{batches}
use Rattle.plinq_run.specs.declared.report.Report.{Report}
use Rattle.plinq_run.specs.declared.run_fault.RunFault.{RunFault}
use Rattle.plinq_run.specs.declared.run_fault.RunFault.TheVariants.{Cancelled}
use Rattle.plinq_run.specs.Reports.{HasReported, IsBroken}

module _ {K T : Type 0} (accepts : K → List T → K → Type 0) (refuses : K → List T → ℕ → K → Type 0) (option : MergeOption) (May : Trace T → Trace T → Type 0)
    (t : Trace T) (most : Option ℕ) (s s' : K) where
  -- the sink has taken the first batches of an answer, as many as were asked for
  pub record HasFirst : Type 0 where
    pub answer : Trace T
    pub may : May t answer
    pub sent : List (List T)
    pub rest : List (List T)
    pub first : batches option answer ≡ sent ++ rest
    pub number : most ≡ Some (length sent)
    pub leads : Leads accepts s sent s'

  -- the run reports what a run without a token does, of fewer batches than it was to be cancelled after, or it was cancelled
  abbrev pub Leaves : Result Report RunFault → Type 0
  Leaves (Ok report) = (h : HasReported accepts refuses option May t s s' report) × IfSome most (λ n. length (batches option h.answer) < n)
  Leaves (Err Cancelled) = HasFirst
  Leaves (Err fault) = IsBroken accepts refuses option May t s s' fault
