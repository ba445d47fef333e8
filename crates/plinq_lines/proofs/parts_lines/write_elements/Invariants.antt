use Rattle.std.proofs.Common.{length}
use Rattle.std.specs.List.{flat_map}
use Rattle.plinq_lines.specs.AnswerText.{line}
use Rattle.plinq_lines.specs.PartsText.{element_words}
use Rattle.plinq_lines.proofs.PartWritten.{PartWritten}
use Rattle.plinq_lines.proofs.parts_lines.write_elements.Given as goal

abbrev pub invariant-loop-element : goal.invariant-loop-element
invariant-loop-element g l =
    PartWritten (g.W.Write.contents l.initial.writer) (g.W.Write.contents l.writer)
    (line (flat_map element_words l.rest)) (line (flat_map element_words l.fn.elements))

abbrev pub decreases-loop-element : goal.decreases-loop-element
decreases-loop-element g l = length l.rest
