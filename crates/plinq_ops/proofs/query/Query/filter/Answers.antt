use Rattle.std.proofs.Common.{rules}
use Rattle.plinq_ops.proofs.query.Query.filter.Goals as goal

pub returns : goal.returns
returns g c = search rules
