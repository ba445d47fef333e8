use Rattle.std.proofs.Common.{rules}
use Rattle.plinq_ops.proofs.op.Op.needed.Goals as goal

pub returns-in-Take : goal.returns-in-Take
returns-in-Take g c = search rules

pub returns-in-Take-2 : goal.returns-in-Take-2
returns-in-Take-2 g c = search rules
