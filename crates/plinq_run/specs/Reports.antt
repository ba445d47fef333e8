-- What a run delivers and reports: one of the answers that it may have.
use Rattle.std.specs.Prelude.{ℕ, List, Result, Ok, Err}
use Rattle.plinq_source.specs.Trace.{Trace}
use Rattle.plinq_ops.specs.declared.merge_option.MergeOption.{MergeOption}
use Rattle.plinq_run.specs.declared.report.Report.{Report}
use Rattle.plinq_run.specs.declared.run_fault.RunFault.{RunFault}
use Rattle.plinq_run.specs.Handed.{handed_trace}
use Rattle.plinq_run.specs.Runs.{HasRun, HasBroken}

module _ {K T : Type 0} (accepts : K → List T → K → Type 0) (refuses : K → List T → ℕ → K → Type 0) (option : MergeOption)
    (May : Trace T → Trace T → Type 0) (t : Trace T) (s s' : K) where
  -- a beginning of an answer's batches was delivered
  pub record IsBroken (fault : RunFault) : Type 0 where
    pub answer : Trace T
    pub may : May t answer
    pub broken : HasBroken accepts refuses option answer s s' fault

  -- an answer was delivered: it is one of the source, and of what the records hand out
  pub record HasReported (report : Report) : Type 0 where
    pub answer : Trace T
    pub may : May t answer
    pub accounts : May (handed_trace t report.records.items) answer
    pub has_run : HasRun accepts option answer s s' report.ending

  -- A report says of what was delivered that it is all of an answer; a fault, that it is the beginning of one
  abbrev pub Reports : Result Report RunFault → Type 0
  Reports (Ok report) = HasReported report
  Reports (Err fault) = IsBroken fault
