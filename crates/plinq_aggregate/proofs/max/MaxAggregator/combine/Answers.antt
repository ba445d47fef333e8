use Rattle.std.proofs.Common.{rules}
use Rattle.plinq_aggregate.proofs.max.MaxAggregator.combine.Goals as goal

pub returns-in_default-None : goal.returns-in_default-None
returns-in_default-None c = search rules
