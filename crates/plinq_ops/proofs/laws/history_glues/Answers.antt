use Rattle.plinq_ops.proofs.ResultRows.{row-of_history}
use Rattle.plinq_ops.proofs.laws.history_glues.Goals as goal

pub returns : goal.returns
returns g c = λ meaning worker t h rs. row-of_history meaning worker t h rs
