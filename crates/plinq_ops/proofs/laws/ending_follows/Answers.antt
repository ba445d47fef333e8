use Rattle.plinq_ops.proofs.Rows.{glue-whole}
use Rattle.plinq_ops.proofs.laws.ending_follows.Goals as goal

pub returns : goal.returns
returns g c = λ meaning worker t. glue-whole meaning worker t
