use Rattle.plinq_ops.proofs.Answers.{Answer-sequential}
use Rattle.plinq_ops.proofs.laws.sequential_is_an_answer.Goals as goal

pub returns : goal.returns
returns g c = λ meaning ordered ops t. Answer-sequential meaning ordered ops t
