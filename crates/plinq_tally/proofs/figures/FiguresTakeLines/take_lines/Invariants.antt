use Rattle.std.proofs.Common.{◌≡◌, length}
use Rattle.std.specs.List.{fold}
use Rattle.plinq_text.specs.Lines.{lines_of}
use Rattle.plinq_tally.proofs.FigureLaws.{after_figure}
use Rattle.plinq_tally.proofs.figures.FiguresTakeLines.take_lines.Given as goal

abbrev pub invariant-loop-line : goal.invariant-loop-line
invariant-loop-line l = fold after_figure l.fn.self (lines_of l.text) ≡ fold after_figure l.self (lines_of l.rest)

abbrev pub decreases-loop-line : goal.decreases-loop-line
decreases-loop-line l = length l.rest
