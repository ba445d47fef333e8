use Rattle.plinq_partition.proofs.Shares.{normalized-history}
use Rattle.plinq_partition.proofs.laws.keys_of_all_partitions_are_normalized.Goals as goal

pub returns : goal.returns
returns g c = λ t h legal. normalized-history t h legal
