use Rattle.std.proofs.Common.{◌≡◌, drop}
use Rattle.std.specs.List.{concat}
use Rattle.plinq_keyed.specs.Keys.{element_lists, key_lists, is_among}
use Rattle.plinq_keyed.proofs.normalized.some_has_key.Given as goal

abbrev pub invariant-loop-part : goal.invariant-loop-part
invariant-loop-part g l =
    is_among (concat (key_lists (element_lists (drop l.part-index l.parts)))) l.key ≡ is_among (concat (key_lists (element_lists l.parts))) l.key
