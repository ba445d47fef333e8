use Rattle.std.proofs.Common.{◌≡◌, drop}
use Rattle.plinq_keyed.specs.Keys.{keys}
use Rattle.plinq_keyed.specs.inner.Sweeps.{all_from}
use Rattle.plinq_keyed.proofs.checks.keys_from.Given as goal

abbrev pub invariant-loop-element : goal.invariant-loop-element
invariant-loop-element g l = all_from l.least (keys (drop l.element-index l.part)) ≡ all_from l.least (keys l.part)
