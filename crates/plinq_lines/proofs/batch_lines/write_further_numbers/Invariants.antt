use Rattle.std.proofs.Common.{length}
use Rattle.std.specs.List.{flat_map}
use Rattle.plinq_lines.specs.AnswerText.{line, further_number}
use Rattle.plinq_lines.proofs.PartWritten.{PartWritten}
use Rattle.plinq_lines.proofs.batch_lines.write_further_numbers.Given as goal

abbrev pub invariant-loop-rest : goal.invariant-loop-rest
invariant-loop-rest g l =
    PartWritten (g.W.Write.contents l.initial.writer) (g.W.Write.contents l.writer)
    (line (flat_map further_number l.rest)) (line (flat_map further_number l.fn.further))

abbrev pub decreases-loop-rest : goal.decreases-loop-rest
decreases-loop-rest g l = length l.rest
