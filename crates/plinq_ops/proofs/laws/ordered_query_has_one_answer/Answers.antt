use Rattle.plinq_ops.proofs.Answers.{Answer-only}
use Rattle.plinq_ops.proofs.laws.ordered_query_has_one_answer.Goals as goal

pub returns : goal.returns
returns g c = λ meaning ops t u keeps answer. Answer-only meaning ops t u keeps answer
