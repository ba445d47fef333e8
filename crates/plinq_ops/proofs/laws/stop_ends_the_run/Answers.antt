use Rattle.plinq_ops.proofs.Rows.{stop-ends}
use Rattle.plinq_ops.proofs.laws.stop_ends_the_run.Goals as goal

pub returns : goal.returns
returns g c = λ meaning worker t r k. stop-ends meaning worker t r k
