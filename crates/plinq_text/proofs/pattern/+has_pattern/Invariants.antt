use Rattle.std.proofs.Common.{length}
use Rattle.plinq_text.proofs.pattern.+has_pattern.Given as goal

abbrev pub decreases-has_pattern : goal.decreases-has_pattern
decreases-has_pattern l = length l.patterns.now
