-- What a run with a token delivers and reports.
use Rattle.std.specs.Prelude.{⊤, ℕ, ◌<◌, ◌≤◌, List, length, take, Bool, true, false, Result, Ok, Err}
use Rattle.plinq_source.specs.Trace.{Trace}
use Rattle.plinq_ops.specs.declared.merge_option.MergeOption.{MergeOption}
use Rattle.plinq_ops.specs.Batches.{batches}
use Rattle.plinq_merge.specs.Sending.{Leads}
use Rattle.plinq_merge.specs.Cancelling.{Delivery, Passes, IsRefused, IsAsked, IsStopped}
use Rattle.plinq_run.specs.declared.report.Report.{Report}
use Rattle.plinq_run.specs.declared.run_fault.RunFault.{RunFault}
use Rattle.plinq_run.specs.declared.run_fault.RunFault.TheVariants.{Cancelled}
use Rattle.plinq_run.specs.Reports.{HasReported, IsBroken}
use Rattle.plinq_run.specs.Runs.{HasRun, HasBroken}

-- its token stopped the run
abbrev pub is_stopped : {X : Type 0} → Result X RunFault → Bool
is_stopped (Ok x) = false
is_stopped (Err Cancelled) = true
is_stopped (Err fault) = false

module _ {C K T : Type 0} (asks : C → ℕ → Bool → C → Type 0) (accepts : K → List T → K → Type 0)
    (refuses : K → List T → ℕ → K → Type 0) (option : MergeOption) where
  module _ (May : Trace T → Trace T → Type 0) (t : Trace T) (d d' : Delivery C K) where
    -- an answer was delivered, and then the token let its ending be reported
    pub record HasReportedWith (report : Report) : Type 0 where
      pub last : Delivery C K
      pub reported : HasReported (Passes asks accepts) (IsRefused asks refuses) option May t d last report
      pub lets : IsAsked asks false last d'

    -- a beginning of an answer's batches was delivered, and then the token stopped the run
    pub record WasStopped : Type 0 where
      pub answer : Trace T
      pub may : May t answer
      pub stopped : IsStopped asks accepts d (batches option answer) d'

    -- what a run with a token reports, and what it has delivered then
    abbrev pub ReportsWith : Result Report RunFault → Type 0
    ReportsWith (Ok report) = HasReportedWith report
    ReportsWith (Err Cancelled) = WasStopped
    ReportsWith (Err fault) = IsBroken (Passes asks accepts) (IsRefused asks refuses) option May t d d' fault

  -- the same of a token and a sink before and after, whatever the number of batches
  abbrev pub ReportsSome : (Trace T → Trace T → Type 0) → Trace T → C → K → ℕ → Result Report RunFault → C → K → Type 0
  ReportsSome May t token sink delivered result token' sink' =
      (delivered' : ℕ) × ReportsWith May t
      (record { token = token; sink = sink; delivered = delivered })
      (record { token = token'; sink = sink'; delivered = delivered' }) result

  -- a run with a token delivered this answer, or a beginning of its batches
  abbrev pub RunsWith : Trace T → Delivery C K → Delivery C K → Result Report RunFault → Type 0
  RunsWith u d d' (Ok report) = (last : Delivery C K) × (HasRun (Passes asks accepts) option u d last report.ending) × IsAsked asks false last d'
  RunsWith u d d' (Err Cancelled) = IsStopped asks accepts d (batches option u) d'
  RunsWith u d d' (Err fault) = HasBroken (Passes asks accepts) (IsRefused asks refuses) option u d d' fault

module _ {K T : Type 0} (accepts : K → List T → K → Type 0) (n : ℕ) (bs : List (List T)) (s s' : K) where
  -- a run that stops after n of an answer's batches: it reports an ending where there are fewer, and is cancelled once n were
  -- delivered; of another fault nothing is said
  abbrev pub StopsAfter : Result Report RunFault → Type 0
  StopsAfter (Ok report) = (length bs < n) × Leads accepts s bs s'
  StopsAfter (Err Cancelled) = (n ≤ length bs) × Leads accepts s (take n bs) s'
  StopsAfter (Err fault) = ⊤
