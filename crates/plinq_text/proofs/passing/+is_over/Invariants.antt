use Rattle.std.proofs.Common.{length}
use Rattle.plinq_text.proofs.passing.+is_over.Given as goal

abbrev pub decreases-is_over : goal.decreases-is_over
decreases-is_over l = length l.steps.now
