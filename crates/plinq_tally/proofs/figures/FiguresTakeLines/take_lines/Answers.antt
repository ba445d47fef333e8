use Rattle.std.proofs.Common.{ap, sym, ◌∙◌}
use Rattle.std.specs.List.{fold}
use Rattle.plinq_text.specs.Lines.{lines_of}
use Rattle.plinq_tally.proofs.FigureLaws.{after_figure}
use Rattle.plinq_tally.proofs.figures.FiguresTakeLines.take_lines.Goals as goal

pub loop-line-preserved : goal.loop-line-preserved
loop-line-preserved c =
    c.loop-line.invariant
    ∙ ap (fold after_figure c.loop-line.self) c.in-Some.ensures.0
    ∙ ap (λ v. fold after_figure v (lines_of c.in-Some.line.rest.now)) (sym c.in_ok-take_line.ensures)

pub returns : goal.returns
returns c = sym (c.loop-line.invariant ∙ ap (fold after_figure c.loop-line.self) c.in_default.ensures)
