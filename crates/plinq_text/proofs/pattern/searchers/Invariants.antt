use Rattle.std.proofs.Common.{◌≡◌, take}
use Rattle.plinq_text.proofs.pattern.searchers.Given as goal

abbrev pub invariant-loop-pattern : goal.invariant-loop-pattern
invariant-loop-pattern l = l.all.items ≡ take l.pattern-index l.patterns
