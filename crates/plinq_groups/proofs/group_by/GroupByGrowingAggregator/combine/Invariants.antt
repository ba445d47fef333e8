use Rattle.std.proofs.Common.{◌≡◌}
use Rattle.std.specs.List.{fold}
use Rattle.plinq_groups.specs.Groups.{with_group}
use Rattle.plinq_groups.proofs.group_by.GroupByGrowingAggregator.combine.Given as goal

-- with the groups that are left they come to those of both
abbrev pub invariant-loop-key : goal.invariant-loop-key
invariant-loop-key g l =
    fold (with_group g.F.Key.PartialEq.eq (g.F.KeyOf.keys l.self.key) (g.A.GrowingAggregator.folding l.self.each)) l.map.entries l.key-iterator
    ≡ fold (with_group g.F.Key.PartialEq.eq (g.F.KeyOf.keys l.self.key) (g.A.GrowingAggregator.folding l.self.each)) l.fn.first l.fn.second
