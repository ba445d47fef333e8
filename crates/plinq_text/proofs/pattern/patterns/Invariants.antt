use Rattle.std.proofs.Common.{◌≡◌, map, take}
use Rattle.plinq_text.specs.StepPatterns.{pattern_of_step}
use Rattle.plinq_text.proofs.pattern.patterns.Given as goal

abbrev pub invariant-loop-step : goal.invariant-loop-step
invariant-loop-step l = l.all.items ≡ map pattern_of_step (take l.step-index l.steps)
