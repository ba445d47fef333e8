use Rattle.plinq_partition.proofs.Together.{takes-one-history}
use Rattle.plinq_partition.proofs.laws.takes_are_one_history.Goals as goal

pub returns : goal.returns
returns g c = takes-one-history g.row.T.Denot
