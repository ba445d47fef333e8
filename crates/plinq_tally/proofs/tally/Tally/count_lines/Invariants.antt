use Rattle.std.proofs.Common.{◌≡◌, length}
use Rattle.plinq_text.specs.Lines.{lines_of}
use Rattle.plinq_tally.specs.Tallies.{tallied}
use Rattle.plinq_tally.proofs.tally.Tally.count_lines.Given as goal

abbrev pub invariant-loop-line : goal.invariant-loop-line
invariant-loop-line l = tallied l.fn.self (lines_of l.text) ≡ tallied l.self (lines_of l.rest)

abbrev pub decreases-loop-line : goal.decreases-loop-line
decreases-loop-line l = length l.rest
