-- What one thread has written of a query's answer.
use Rattle.std.specs.Prelude.{◌≡◌, ℕ, ℤ, List, Option, Some, Result, IfOk, IfErr}
use Rattle.plinq_source.specs.declared.ending.Ending.{Ending}
use Rattle.plinq_source.specs.Trace.{Trace}
use Rattle.plinq_lambda.specs.Formula.{formula_meaning}
use Rattle.plinq_lambda.specs.declared.formula.Formula.{Formula}
use Rattle.plinq_ops.specs.Query.{QueryView}
use Rattle.plinq_ops.specs.Sequential.{answer_of}
use Rattle.plinq_arguments.specs.declared.command.Command.TheVariants.{Seq}
use Rattle.plinq_lines.specs.Written.{Writes}
use Rattle.plinq_cli.specs.declared.serve_fault.ServeFault.{ServeFault}
use Rattle.plinq_cli.specs.ServeFaults.{MayFail}
use Rattle.plinq_cli.specs.Served.{batch_lines}

-- the lines of its batches, or after a fault a beginning of them
pub record HasWrittenAnswer (q : QueryView Formula) (t : Trace ℤ) (old new : Option (List ℕ)) (r : Result Ending ServeFault) : Type 0 where
  pub lines : Writes old new r (batch_lines q.merge (answer_of formula_meaning q.ops t))
  pub ending : IfOk r (λ e. (answer_of formula_meaning q.ops t).ending ≡ Some e)
  pub faults : IfErr r (MayFail Seq)
