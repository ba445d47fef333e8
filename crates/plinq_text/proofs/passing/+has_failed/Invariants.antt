use Rattle.std.proofs.Common.{length}
use Rattle.plinq_text.proofs.passing.+has_failed.Given as goal

abbrev pub decreases-has_failed : goal.decreases-has_failed
decreases-has_failed l = length l.steps.now
