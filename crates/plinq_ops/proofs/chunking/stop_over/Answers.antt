use Rattle.std.proofs.Common.{rules}
use Rattle.plinq_ops.proofs.chunking.stop_over.Goals as goal

pub returns-else-first-cut : goal.returns-else-first-cut
returns-else-first-cut c = search rules
