use Rattle.std.proofs.Common.{◌≡◌, ◌+◌, length}
use Rattle.plinq_keyed.specs.Keys.{element_lists}
use Rattle.plinq_lines.specs.PartsText.{part_lines}
use Rattle.plinq_lines.proofs.PartWritten.{PartWritten}
use Rattle.plinq_lines.proofs.parts_lines.write_partitions.Given as goal

abbrev pub invariant-loop-part : goal.invariant-loop-part
invariant-loop-part g l = record {
  counted : l.number + length l.rest ≡ length l.fn.partitions;
  written : PartWritten (g.W.Write.contents l.initial.writer) (g.W.Write.contents l.writer) (part_lines l.number (element_lists l.rest))
      (part_lines 0 (element_lists l.fn.partitions));
}

abbrev pub decreases-loop-part : goal.decreases-loop-part
decreases-loop-part g l = length l.rest
