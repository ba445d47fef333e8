use Rattle.std.proofs.Common.{◌≡◌, length}
use Rattle.plinq_tally.specs.FigureText.{trimmed}
use Rattle.plinq_tally.proofs.figure_text.trimmed.Given as goal

abbrev pub invariant-loop-last : goal.invariant-loop-last
invariant-loop-last l = trimmed l.digits ≡ trimmed l.rest

abbrev pub decreases-loop-last : goal.decreases-loop-last
decreases-loop-last l = length l.rest
