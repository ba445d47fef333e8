use Rattle.std.proofs.Common.{length}
use Rattle.plinq_text.proofs.passing.+has_check.Given as goal

abbrev pub decreases-has_check : goal.decreases-has_check
decreases-has_check l = length l.steps.now
