use Rattle.std.proofs.Common.{◌≡◌, ◌≤◌, map, length, vec_len, vec_capacity}
use Rattle.std.specs.List.{range_with_len}
use Rattle.plinq_keyed.specs.Keys.{element_lists}
use Rattle.plinq_partition.specs.Cuts.{cut, cut_place}
use Rattle.plinq_partition.proofs.even_parts.cut_elements.Given as goal

abbrev pub invariant-loop-part : goal.invariant-loop-part
invariant-loop-part g l = record {
  made : element_lists l.parts.items ≡ map (cut (g.E.Elements.elements l.elements) l.n) (range_with_len 0 l.part);
  counted : vec_len l.parts ≡ l.part;
  room : l.n ≤ vec_capacity l.parts;
  from : l.from ≡ cut_place l.part (length (g.E.Elements.elements l.elements)) l.n;
  within : l.from ≤ length (g.E.Elements.elements l.elements);
}
