use Rattle.std.proofs.Common.{All, vec_len}
use Rattle.plinq_ticket.specs.Passes.{IsPassOf}
use Rattle.plinq_partition.specs.Partitions.{IsPartitionOf}
use Rattle.plinq_partition.proofs.Lists.{IsGathered}
use Rattle.plinq_partition.proofs.chunked.Chunked.give_back.Given as goal

abbrev pub invariant-loop-partition : goal.invariant-loop-partition
invariant-loop-partition g l = record {
  all : All (IsPartitionOf l.fn.self) l.partitions.items;
  of : IsPassOf l.fn.self.lock l.pass;
  gathered : IsGathered l.fn.partitions.items l.partitions.items l.pass;
}

abbrev pub decreases-loop-partition : goal.decreases-loop-partition
decreases-loop-partition g l = vec_len l.partitions
