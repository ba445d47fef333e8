use Rattle.std.proofs.Common.{◌≡◌, ◌<◌, ◌^◌, drop}
use Rattle.plinq_keyed.specs.Keys.{keys, rises_from, rises}
use Rattle.plinq_keyed.proofs.checks.keys_rise.Given as goal

abbrev pub invariant-loop-element : goal.invariant-loop-element
invariant-loop-element g l = record {
  rest : rises_from l.least (keys (drop l.element-index l.part)) ≡ rises (keys l.part);
  small : l.least < 2 ^ 65;
}
