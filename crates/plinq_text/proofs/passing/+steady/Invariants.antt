use Rattle.std.proofs.Common.{length}
use Rattle.plinq_text.proofs.passing.+steady.Given as goal

abbrev pub decreases-steady : goal.decreases-steady
decreases-steady l = length l.steps.now
