use Rattle.std.proofs.Common.{[], Some, length}
use Rattle.std.specs.List.{flat_map}
use Rattle.plinq_ops.specs.Batches.{full_batches}
use Rattle.plinq_lines.specs.AnswerText.{batch_line}
use Rattle.plinq_lines.proofs.PartWritten.{PartWritten}
use Rattle.plinq_lines.proofs.batch_lines.write_long_batches.Given as goal

abbrev pub invariant-loop-rest : goal.invariant-loop-rest
invariant-loop-rest g l =
    PartWritten (g.W.Write.contents l.initial.writer) (g.W.Write.contents l.writer)
    (flat_map batch_line (full_batches (Some l.fn.size) [] l.rest)) (flat_map batch_line (full_batches (Some l.fn.size) [] l.fn.numbers))

abbrev pub decreases-loop-rest : goal.decreases-loop-rest
decreases-loop-rest g l = length l.rest
