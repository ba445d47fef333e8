use Rattle.plinq_ops.proofs.Rows.{answer-decided}
use Rattle.plinq_ops.proofs.laws.decided_answer_stays.Goals as goal

pub returns : goal.returns
returns g c = λ meaning worker after t k e. answer-decided meaning worker after t k e
