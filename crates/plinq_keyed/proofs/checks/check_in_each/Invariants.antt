use Rattle.std.proofs.Common.{◌≡◌, drop}
use Rattle.plinq_keyed.specs.Keys.{key_lists, element_lists, ordered_in_each}
use Rattle.plinq_keyed.proofs.checks.check_in_each.Given as goal

abbrev pub invariant-loop-part : goal.invariant-loop-part
invariant-loop-part g l = ordered_in_each (key_lists (element_lists (drop l.part-index l.parts))) ≡ ordered_in_each (key_lists (element_lists l.parts))
