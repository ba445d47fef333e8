use Rattle.std.proofs.Common.{rules}
use Rattle.plinq_merge.proofs.buffer.buffer_of.Goals as goal

pub returns-clause-size : goal.returns-clause-size
returns-clause-size g c = search rules
