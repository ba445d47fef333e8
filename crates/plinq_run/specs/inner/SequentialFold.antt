-- An answer that one thread folds.
use Rattle.std.specs.Prelude.{ℕ, List}
use Rattle.plinq_source.specs.Trace.{Trace}
use Rattle.plinq_aggregate.specs.Folding.{Folding}
use Rattle.plinq_ops.specs.Sequential.{IsLeastDeciding}
use Rattle.plinq_ops.specs.Stage.{Stage, seq}
use Rattle.plinq_run.specs.declared.combined.Combined.{Combined}
use Rattle.plinq_run.specs.FinishedFold.{HasFinished}

-- what these operators make of a source is folded, and the source has given the least number of items that decides it
pub record FoldsAll {T A O : Type 0} (f : Folding T A O) (ss : List (Stage T)) (t : Trace T) (given : ℕ) (made : Combined A) : Type 0 where
  pub folded : HasFinished f (seq ss t) made
  pub least : IsLeastDeciding ss t given
