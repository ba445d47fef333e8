use Rattle.std.proofs.Common.{◌≡◌, ◌≤◌, All, vec_len, vec_capacity}
use Rattle.plinq_partition.specs.Partitions.{holding_of, IsPartitionOf, AreMadeFrom}
use Rattle.plinq_partition.proofs.chunked.Chunked.partitions.Given as goal

abbrev pub invariant-loop : goal.invariant-loop
invariant-loop g l = record {
  of : All (IsPartitionOf l.self) l.partitions.items;
  made : AreMadeFrom (holding_of l.fn.partition) l.partitions.items;
  counted : vec_len l.partitions ≡ l.counter;
  room : l.n ≤ vec_capacity l.partitions;
}
