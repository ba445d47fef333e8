-- The items so far are numbers, and there is room for those that are left.
use Rattle.std.proofs.Common.{◌≡◌, ◌++◌, ◌≤◌, length, drop, option_map, vec_len, vec_capacity}
use Rattle.serde_json.specs.View.{items_view}
use Rattle.plinq_document.specs.Sources.{whole_numbers}
use Rattle.plinq_document.proofs.plain_sources.whole_numbers.Given as goal

abbrev pub invariant-loop-item : goal.invariant-loop-item
invariant-loop-item l = record {
  same : whole_numbers (items_view l.items) ≡ option_map (λ rest. l.numbers.items ++ rest) (whole_numbers (items_view (drop l.item-index l.items)));
  count : vec_len l.numbers ≡ l.item-index;
  room : length l.items ≤ vec_capacity l.numbers;
}
