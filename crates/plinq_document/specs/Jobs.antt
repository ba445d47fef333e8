-- What a document asks for.
use Rattle.std.specs.Prelude.{ℕ, ℤ, Bool, Option}
use Rattle.plinq_source.specs.Trace.{Trace}
use Rattle.plinq_lambda.specs.declared.formula.Formula.{Formula}
use Rattle.plinq_ops.specs.Query.{QueryView}
use Rattle.plinq_enumerator.specs.Growing.{GrowthRule}
use Rattle.plinq_document.specs.declared.kind.Kind.{Kind}

-- a query, the trace of its source, how its chunks grow and whether the document says so, the aggregate of its answer, if one is
-- asked for, and after how many batches a run of it is cancelled, if it is
pub record JobView : Type 0 where
  pub query : QueryView Formula
  pub source : Trace ℤ
  pub growth : GrowthRule
  pub has_growth : Bool
  pub aggregate : Option Kind
  pub cancel_after : Option ℕ
