use Rattle.std.proofs.Common.{rules}
use Rattle.plinq_aggregate.proofs.count.CountAggregator.combine.Goals as goal

pub returns : goal.returns
returns c = search rules
