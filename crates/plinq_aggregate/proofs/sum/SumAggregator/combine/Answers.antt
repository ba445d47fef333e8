use Rattle.std.proofs.lemmas.Int.{wrapping_add_is}
use Rattle.std.specs.Int.{w128}
use Rattle.plinq_aggregate.proofs.sum.SumAggregator.combine.Goals as goal

-- src/sum.rt:31:5
pub returns : goal.returns
returns c = wrapping_add_is w128 c.args.first c.args.second c.ranges.first c.ranges.second
