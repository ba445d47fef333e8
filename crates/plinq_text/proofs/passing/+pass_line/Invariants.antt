use Rattle.std.proofs.Common.{length}
use Rattle.plinq_text.proofs.passing.+pass_line.Given as goal

abbrev pub decreases-pass_line : goal.decreases-pass_line
decreases-pass_line l = length l.steps.now
