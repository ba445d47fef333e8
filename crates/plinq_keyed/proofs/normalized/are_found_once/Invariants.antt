use Rattle.std.proofs.Common.{◌≡◌, ◌&&◌, drop}
use Rattle.std.specs.List.{concat}
use Rattle.plinq_keyed.specs.Keys.{element_lists, key_lists, keys, are_distinct}
use Rattle.plinq_keyed.specs.inner.Sweeps.{are_disjoint}
use Rattle.plinq_keyed.proofs.normalized.are_found_once.Given as goal

abbrev pub invariant-loop-place : goal.invariant-loop-place
invariant-loop-place g l = (are_distinct (keys (drop l.place l.part)) && are_disjoint (keys (drop l.place l.part)) (concat (key_lists (element_lists l.later))))
    ≡ (are_distinct (keys l.part) && are_disjoint (keys l.part) (concat (key_lists (element_lists l.later))))
