use Rattle.std.proofs.Common.{◌≡◌, ◌<◌, ◌^◌, drop}
use Rattle.plinq_keyed.specs.Keys.{keys}
use Rattle.plinq_keyed.specs.inner.Sweeps.{least_after}
use Rattle.plinq_keyed.proofs.checks.least_above.Given as goal

abbrev pub invariant-loop-element : goal.invariant-loop-element
invariant-loop-element g l = record {
  rest : least_after l.least (keys (drop l.element-index l.part)) ≡ least_after l.given (keys l.part);
  small : l.least < 2 ^ 65;
}
