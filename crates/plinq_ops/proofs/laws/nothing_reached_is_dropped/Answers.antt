use Rattle.plinq_ops.proofs.Rows.{result-after_open}
use Rattle.plinq_ops.proofs.laws.nothing_reached_is_dropped.Goals as goal

pub returns : goal.returns
returns g c = λ meaning worker t r. result-after_open meaning worker t r
