use Rattle.std.proofs.Common.{◌≡◌, take}
use Rattle.std.specs.List.{fold}
use Rattle.plinq_aggregate.proofs.growing_aggregator.GrowingAggregator.update_block.Given as goal

-- the accumulator is that of the items so far
abbrev pub invariant-loop-item : goal.invariant-loop-item
invariant-loop-item g l = l.acc ≡ fold (g.Self.GrowingAggregator.folding l.self).update l.fn.acc (take l.item-index l.block)
