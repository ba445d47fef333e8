use Rattle.std.proofs.Common.{◌≡◌, ◌+◌, ◌≤◌, length, All, vec_len, vec_capacity, suc}
use Rattle.plinq_ticket.specs.Weights.{total}
use Rattle.plinq_partition.specs.GivenBack.{common_origin}
use Rattle.plinq_cli.specs.Rounds.{IsDone, IsOpen, left_of}
use Rattle.plinq_cli.proofs.rounds.take_turns.Given as goal

abbrev pub invariant-loop-next : goal.invariant-loop-next
invariant-loop-next g l = record {
  waiting : All (IsOpen l.fn.chunked (common_origin l.fn.partitions.items)) l.waiting.items;
  done : All (IsDone l.fn.chunked (common_origin l.fn.partitions.items)) l.done.items;
  count : length l.waiting.items + length l.done.items ≡ length l.fn.partitions.items;
  room : length l.waiting.items + vec_len l.done ≤ vec_capacity l.done;
}

abbrev pub decreases-loop-next : goal.decreases-loop-next
decreases-loop-next g l = total (λ p. suc (left_of p)) l.waiting.items
