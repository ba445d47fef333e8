use Rattle.std.proofs.Common.{ap, sym, ◌∙◌}
use Rattle.plinq_text.specs.Lines.{lines_of}
use Rattle.plinq_tally.specs.Tallies.{tallied}
use Rattle.plinq_tally.proofs.tally.Tally.count_lines.Goals as goal

pub loop-line-preserved : goal.loop-line-preserved
loop-line-preserved c =
    c.loop-line.invariant
    ∙ ap (tallied c.loop-line.self) c.in-Some.ensures.0
    ∙ ap (λ gs. tallied gs (lines_of c.in-Some.line.rest.now)) (sym c.in_ok-count.ensures)

pub returns : goal.returns
returns c = sym (c.loop-line.invariant ∙ ap (tallied c.loop-line.self) c.in_default.ensures)
