-- one is written after those before it, and at the end the line feed
use Rattle.plinq_lines.specs.PartsText.{element_words}
use Rattle.plinq_lines.proofs.ItemLines.{line-first, line-none}
use Rattle.plinq_lines.proofs.PartWritten.{piece-failed, piece-written, rest-writes}
use Rattle.plinq_lines.proofs.parts_lines.write_elements.Goals as goal

pub returns-in_err-write_element : goal.returns-in_err-write_element
returns-in_err-write_element g c =
    piece-failed _ _ _ _ c.loop-element.invariant (line-first element_words _ _ _ c.in-Some.ensures.cases.0) c.from_residual.ensures.0
    c.in_err-write_element.ensures

pub loop-element-preserved : goal.loop-element-preserved
loop-element-preserved g c =
    piece-written _ _ _ c.loop-element.invariant (line-first element_words _ _ _ c.in-Some.ensures.cases.0) c.in_ok-write_element.ensures

pub returns : goal.returns
returns g c = rest-writes _ _ _ c.loop-element.invariant (line-none element_words _ c.in_default.ensures.cases) c.write_pieces.ensures
