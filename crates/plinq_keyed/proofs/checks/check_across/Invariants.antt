use Rattle.std.proofs.Common.{◌≡◌, ◌<◌, ◌^◌, ◌&&◌, drop}
use Rattle.std.specs.List.{concat}
use Rattle.plinq_keyed.specs.Keys.{key_lists, element_lists, ordered_across}
use Rattle.plinq_keyed.specs.inner.Sweeps.{all_from}
use Rattle.plinq_keyed.proofs.checks.check_across.Given as goal

abbrev pub invariant-loop-part : goal.invariant-loop-part
invariant-loop-part g l = record {
  rest :
      (all_from l.least (concat (key_lists (element_lists (drop l.part-index l.parts)))) && ordered_across
      (key_lists (element_lists (drop l.part-index l.parts))))
      ≡ ordered_across (key_lists (element_lists l.parts));
  small : l.least < 2 ^ 65;
}
