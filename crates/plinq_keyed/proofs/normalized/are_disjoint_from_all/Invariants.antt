use Rattle.std.proofs.Common.{◌≡◌, drop, true}
use Rattle.std.specs.List.{concat}
use Rattle.plinq_keyed.specs.Keys.{element_lists, key_lists, keys, ordered_in_each}
use Rattle.plinq_keyed.specs.inner.Sweeps.{are_disjoint}
use Rattle.plinq_keyed.proofs.normalized.are_disjoint_from_all.Given as goal

abbrev pub invariant-loop-other : goal.invariant-loop-other
invariant-loop-other g l = record {
  rest : are_disjoint (keys l.part) (concat (key_lists (element_lists (drop l.other-index l.others))))
      ≡ are_disjoint (keys l.part) (concat (key_lists (element_lists l.others)));
  rising : ordered_in_each (key_lists (element_lists (drop l.other-index l.others))) ≡ true;
}
