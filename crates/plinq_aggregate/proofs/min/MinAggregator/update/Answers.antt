use Rattle.std.proofs.Common.{rules}
use Rattle.plinq_aggregate.proofs.min.MinAggregator.update.Goals as goal

pub returns-in-Some : goal.returns-in-Some
returns-in-Some c = search rules
