use Rattle.std.proofs.Common.{◌≡◌, ◌≤◌, ◌+◌, vec_len, vec_capacity}
use Rattle.plinq_keyed.specs.Keys.{keyed_from}
use Rattle.plinq_partition.specs.Cuts.{between}
use Rattle.plinq_partition.proofs.range_parts.RangePartsElements.stretch.Given as goal

abbrev pub invariant-loop-key : goal.invariant-loop-key
invariant-loop-key g l = record {
  made : l.part.items ≡ between l.from l.key (keyed_from 0 l.self);
  counted : vec_len l.part + l.from ≡ l.key;
  room : l.to ≤ vec_capacity l.part + l.from;
}
