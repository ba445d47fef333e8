-- nothing is written before the answer is there
use Rattle.plinq_arguments.specs.declared.command.Command.TheVariants.{Seq}
use Rattle.plinq_cli.proofs.Flushed.{serves-unwritten}
use Rattle.plinq_cli.proofs.serving.serve_fold.Goals as goal

pub returns-in_err-value-clause-written : goal.returns-in_err-value-clause-written
returns-in_err-value-clause-written g c = serves-unwritten c.args.plain Seq c.args.job _ _ c.from_residual.ensures.0
