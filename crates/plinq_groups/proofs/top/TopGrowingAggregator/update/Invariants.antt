use Rattle.std.proofs.Common.{◌≡◌, ◌-◌, ◌≤◌, ◌++◌, length, take, drop}
use Rattle.plinq_groups.specs.Topped.{with_ranked}
use Rattle.plinq_groups.proofs.top.TopGrowingAggregator.update.Given as goal

-- the items so far are of no lesser rank
abbrev pub invariant-loop-at : goal.invariant-loop-at
invariant-loop-at g l =
    record {
      within : l.at ≤ length l.items.items;
      is : with_ranked (g.F.RankOf.ranks l.self.rank) g.F.Rank.Ord.cmp l.items.items l.x
          ≡ take l.at l.items.items ++ with_ranked (g.F.RankOf.ranks l.self.rank) g.F.Rank.Ord.cmp (drop l.at l.items.items) l.x;
    }

abbrev pub decreases-loop-at : goal.decreases-loop-at
decreases-loop-at g l = length l.items.items - l.at
