use Rattle.std.proofs.Common.{◌≡◌, drop}
use Rattle.std.specs.List.{concat}
use Rattle.plinq_keyed.specs.Keys.{element_lists, key_lists, are_distinct}
use Rattle.plinq_keyed.proofs.normalized.keys_differ.Given as goal

abbrev pub invariant-loop-place : goal.invariant-loop-place
invariant-loop-place g l = are_distinct (concat (key_lists (element_lists (drop l.place l.parts)))) ≡ are_distinct (concat (key_lists (element_lists l.parts)))
