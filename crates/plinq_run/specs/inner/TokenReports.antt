-- What a run into a sink with its token reports, where both are lent together.
use Rattle.std.specs.Prelude.{◌≡◌, ◌||◌, ℕ, List, Bool, true, false, if◌then◌else◌, Result, Ok, Err}
use Rattle.plinq_source.specs.Trace.{Trace}
use Rattle.plinq_ops.specs.declared.merge_option.MergeOption.{MergeOption}
use Rattle.plinq_merge.specs.declared.with_cancellation.WithCancellation.{WithCancellation}
use Rattle.plinq_merge.specs.Cancelling.{IsAsked}
use Rattle.plinq_merge.specs.Lent.{AreSame, delivery_of}
use Rattle.plinq_run.specs.declared.report.Report.{Report}
use Rattle.plinq_run.specs.declared.run_fault.RunFault.{RunFault}
use Rattle.plinq_run.specs.declared.run_fault.RunFault.TheVariants.{Cancelled}
use Rattle.plinq_run.specs.Stopping.{is_stopped, ReportsWith}

-- the same two are lent after it, and the token has told whether it stopped the run
pub record ReportsLent {C K T : Type 0} (asks : C → ℕ → Bool → C → Type 0) (has_told : C → Bool) (accepts : K → List T → K → Type 0)
    (refuses : K → List T → ℕ → K → Type 0) (option : MergeOption) (May : Trace T → Trace T → Type 0) (t : Trace T)
    (w w' : WithCancellation C K) (result : Result Report RunFault) : Type 0 where
  pub same : AreSame w w'
  pub told : has_told w'.token.now ≡ (has_told w.token.now || is_stopped result)
  pub reports : ReportsWith asks accepts refuses option May t (delivery_of w) (delivery_of w') result

-- what is reported of a run with this outcome: that its token stopped it, or why it broke off; before its ending the token is asked
-- once more
abbrev pub IsAskedAtLast : {C K : Type 0} → (C → ℕ → Bool → C → Type 0) → Bool → Result Report RunFault
    → WithCancellation C K → Result Report RunFault → WithCancellation C K → Type 0
IsAskedAtLast asks true outcome w result w' = (w' ≡ w) × (result ≡ Err Cancelled)
IsAskedAtLast asks false (Err fault) w result w' = (w' ≡ w) × (result ≡ Err fault)
IsAskedAtLast asks false (Ok report) w result w' =
    (answer : Bool) × IsAsked asks answer (delivery_of w) (delivery_of w') × (result ≡ (if answer then Err Cancelled else Ok report))
