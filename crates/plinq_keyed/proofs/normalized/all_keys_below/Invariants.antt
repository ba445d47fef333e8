use Rattle.std.proofs.Common.{◌≡◌, drop}
use Rattle.std.specs.List.{concat}
use Rattle.plinq_keyed.specs.Keys.{element_lists, key_lists}
use Rattle.plinq_keyed.specs.inner.Sweeps.{all_below}
use Rattle.plinq_keyed.proofs.normalized.all_keys_below.Given as goal

abbrev pub invariant-loop-part : goal.invariant-loop-part
invariant-loop-part g l =
    all_below l.bound (concat (key_lists (element_lists (drop l.part-index l.parts)))) ≡ all_below l.bound (concat (key_lists (element_lists l.parts)))
