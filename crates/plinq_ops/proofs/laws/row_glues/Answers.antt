use Rattle.plinq_ops.proofs.Rows.{row-holds}
use Rattle.plinq_ops.proofs.laws.row_glues.Goals as goal

pub returns : goal.returns
returns g c = λ meaning worker t rs to. row-holds meaning worker t rs to
