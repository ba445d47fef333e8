use Rattle.plinq_ops.proofs.Rows.{row-next}
use Rattle.plinq_ops.proofs.laws.row_goes_on.Goals as goal

pub returns : goal.returns
returns g c = λ meaning worker t r. row-next meaning worker t r
