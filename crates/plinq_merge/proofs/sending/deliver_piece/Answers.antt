use Rattle.std.proofs.Common.{rules}
use Rattle.plinq_merge.proofs.Delivered.{delivering}
use Rattle.plinq_merge.proofs.sending.deliver_piece.Goals as goal

pub returns-clause-sent : goal.returns-clause-sent
returns-clause-sent g c = search (rules, delivering)
