-- What becomes of a source that is sent through a pipeline.
use Rattle.std.specs.Prelude.{ℕ, List, Some}
use Rattle.plinq_source.specs.declared.ending.Ending.{Ending}
use Rattle.plinq_source.specs.Trace.{Trace}
use Rattle.plinq_ops.specs.Feeding.{IsFed}
use Rattle.plinq_ops.specs.Sequential.{IsLeastDeciding}
use Rattle.plinq_ops.specs.Stage.{Stage}

-- all of it was fed, and it has given the least number of items that decides the answer
pub record IsAllFed {T : Type 0} (before : List (Stage T)) (t : Trace T) (given : ℕ) (out out' : List T)
    (after : List (Stage T)) (ending : Ending) : Type 0 where
  pub fed : IsFed before t out out' after (Some ending)
  pub least : IsLeastDeciding before t given
