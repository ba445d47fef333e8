use Rattle.std.proofs.Common.{◌≡◌, ◌+◌, ◌*◌, ◌^◌, ◌≤◌, drop, length}
use Rattle.std.specs.List.{concat}
use Rattle.plinq_keyed.specs.Keys.{element_lists, key_lists}
use Rattle.plinq_keyed.proofs.normalized.count_elements.Given as goal

abbrev pub invariant-loop-part : goal.invariant-loop-part
invariant-loop-part g l = record {
  rest : l.count + length (concat (key_lists (element_lists (drop l.part-index l.parts)))) ≡ length (concat (key_lists (element_lists l.parts)));
  small : l.count ≤ l.part-index * 2 ^ 64;
}
