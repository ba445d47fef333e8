use Rattle.plinq_partition.proofs.Shares.{ordered-share}
use Rattle.plinq_partition.proofs.laws.keys_of_a_partition_rise.Goals as goal

pub returns : goal.returns
returns g c = λ t share rising. ordered-share t share rising
