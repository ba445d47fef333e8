use Rattle.plinq_ops.proofs.Glue.{answer_of-split}
use Rattle.plinq_ops.proofs.laws.split_gives_the_answer.Goals as goal

pub returns : goal.returns
returns g c = λ meaning order ops t some. answer_of-split meaning order ops t some
