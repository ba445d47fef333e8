use Rattle.std.proofs.Common.{◌≡◌, drop}
use Rattle.plinq_keyed.specs.Keys.{keys}
use Rattle.plinq_keyed.specs.inner.Sweeps.{all_below}
use Rattle.plinq_keyed.proofs.normalized.keys_below.Given as goal

abbrev pub invariant-loop-element : goal.invariant-loop-element
invariant-loop-element g l = all_below l.bound (keys (drop l.element-index l.part)) ≡ all_below l.bound (keys l.part)
