use Rattle.std.proofs.Common.{◌≡◌, take}
use Rattle.std.specs.List.{fold}
use Rattle.plinq_groups.specs.Groups.{with_item}
use Rattle.plinq_groups.proofs.group_by.GroupByGrowingAggregator.update_block.Given as goal

-- the groups are those of the items so far
abbrev pub invariant-loop-item : goal.invariant-loop-item
invariant-loop-item g l =
    l.map.entries ≡ fold (with_item g.F.Key.PartialEq.eq (g.F.KeyOf.keys l.self.key) (g.A.GrowingAggregator.folding l.self.each)) l.fn.acc
    (take l.item-index l.block)
