-- What a plan answers, and may answer of its source.
use Rattle.plinq_source.specs.Trace.{Trace}
use Rattle.plinq_lambda.specs.Meaning.{Meaning}
use Rattle.plinq_ops.specs.declared.plan.Plan.{Plan}
use Rattle.plinq_ops.specs.Fragment.{glue}
use Rattle.plinq_ops.specs.Operator.{stages_of}
use Rattle.plinq_ops.specs.Stage.{seq}
use Rattle.std.specs.Prelude.{◌≡◌, ◌≤◌, ℕ}
use Rattle.plinq_ops.specs.declared.order.Order.{Order}
use Rattle.plinq_ops.specs.declared.order.Order.TheVariants.{ByKey, ByArrival}
use Rattle.plinq_ops.specs.Answer.{IsRearranged}
use Rattle.plinq_crew.specs.Plans.{IsUndecided}
use Rattle.plinq_run.specs.declared.run_request.RunRequest.{RunRequest}

-- what the operators after the merge make of the workers' fragments, joined by key
abbrev pub merged_answer : {L T : Type 0} → (L → Meaning T) → Plan L → Trace T → Trace T
merged_answer meaning plan t = seq (stages_of meaning plan.after.now) (glue meaning plan.worker.now t)

-- in which order a merge may take the items of a source
abbrev pub MayTake : {T : Type 0} → Order → Trace T → Trace T → Type 0
MayTake ByKey t v = v ≡ t
MayTake ByArrival t v = IsRearranged t v

-- what a plan may answer
pub record MayMerge {L T : Type 0} (meaning : L → Meaning T) (plan : Plan L) (t u : Trace T) : Type 0 where
  pub taken : Trace T
  pub may : MayTake plan.order t taken
  pub is : u ≡ merged_answer meaning plan taken

-- a run may begin: its plan needs workers, of whom there are not too many, and its source was asked for nothing
pub record MayRun {Q T L S G : Type 0} (given : S → ℕ) (request : RunRequest Q T L S G) : Type 0 where
  pub unasked : given request.source ≡ 0
  pub plan : IsUndecided request.plan.now
  pub workers : (1 ≤ request.workers) × (request.workers ≤ 64)
