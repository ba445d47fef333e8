use Rattle.std.proofs.Common.{◌≡◌, drop}
use Rattle.plinq_keyed.specs.Keys.{keys, is_among}
use Rattle.plinq_keyed.proofs.normalized.has_key.Given as goal

abbrev pub invariant-loop-element : goal.invariant-loop-element
invariant-loop-element g l = is_among (keys (drop l.element-index l.part)) l.key ≡ is_among (keys l.part) l.key
