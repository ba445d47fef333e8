use Rattle.std.proofs.Common.{length}
use Rattle.std.specs.List.{flat_map}
use Rattle.plinq_lines.specs.AnswerText.{line}
use Rattle.plinq_lines.specs.OpWords.{further_op}
use Rattle.plinq_lines.proofs.PartWritten.{PartWritten}
use Rattle.plinq_lines.proofs.op_words.write_further_ops.Given as goal

abbrev pub invariant-loop-op : goal.invariant-loop-op
invariant-loop-op g l =
    PartWritten (g.W.Write.contents l.initial.writer) (g.W.Write.contents l.writer)
    (line (flat_map further_op l.rest)) (line (flat_map further_op l.fn.further))

abbrev pub decreases-loop-op : goal.decreases-loop-op
decreases-loop-op g l = length l.rest
