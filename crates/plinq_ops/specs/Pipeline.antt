-- A pipeline: operators that have seen items before.
use Rattle.std.specs.Prelude.{◌≡◌, ℕ, List, map}
use Rattle.plinq_lambda.specs.Meaning.{Meaning}
use Rattle.plinq_ops.specs.declared.op.Op.{Op}
use Rattle.plinq_ops.specs.declared.stage_state.StageState.{StageState}
use Rattle.plinq_ops.specs.Stage.{Stage}
use Rattle.plinq_ops.specs.Operator.{state_stage}
use Rattle.plinq_ops.specs.ByKey.{stages_at}

abbrev pub stages_now : {L T : Type 0} → (L → Meaning T) → List (StageState L) → List (Stage T)
stages_now meaning ops = map (state_stage meaning) ops

-- the operators, and what each still does
pub record PipelineView (L : Type 0) : Type 0 where
  pub ops : List (Op L)
  pub remaining : List (StageState L)

-- what a pipeline still does
abbrev pub stages : {L T : Type 0} → (L → Meaning T) → PipelineView L → List (Stage T)
stages meaning p = stages_now meaning p.remaining

-- a pipeline of operators that so many elements have reached, none of which was filtered out
pub record IsReached {L T : Type 0} (meaning : L → Meaning T) (ops : List (Op L)) (count : ℕ) (p : PipelineView L) : Type 0 where
  pub same : p.ops ≡ ops
  pub left : stages meaning p ≡ stages_at meaning ops count
