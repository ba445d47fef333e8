-- What becomes of operators from one on that are fed a trace.
use Rattle.std.specs.Prelude.{◌≡◌, ℕ, List, ◌++◌, take, drop, Option}
use Rattle.plinq_source.specs.declared.ending.Ending.{Ending}
use Rattle.plinq_source.specs.Trace.{Trace}
use Rattle.plinq_lambda.specs.Meaning.{Meaning}
use Rattle.plinq_ops.specs.declared.stage_state.StageState.{StageState}
use Rattle.plinq_ops.specs.Stage.{Stage}
use Rattle.plinq_ops.specs.Feeding.{IsFed}
use Rattle.plinq_ops.specs.Pipeline.{stages_now}

-- the trace was fed to these stages, which stay as they are, and then to the operators from place i on; those before it are as they were
pub record FeedsStages {L T : Type 0} (meaning : L → Meaning T) (first : List (Stage T)) (i : ℕ) (ops ops' : List (StageState L))
    (t : Trace T) (before after : List T) (ending : Option Ending) : Type 0 where
  pub others : take i ops' ≡ take i ops
  pub fed : IsFed (first ++ stages_now meaning (drop i ops)) t before after (first ++ stages_now meaning (drop i ops')) ending
