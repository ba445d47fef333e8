use Rattle.plinq_partition.specs.Partitions.{IsPartitionOf}
use Rattle.plinq_merge_tests.proofs.load.take_all.Given as goal

abbrev pub invariant-loop-turn : goal.invariant-loop-turn
invariant-loop-turn g l = IsPartitionOf l.chunked l.partition
