use Rattle.plinq_ops.proofs.Stages.{seq-followed_by}
use Rattle.plinq_ops.proofs.laws.answer_goes_on.Goals as goal

pub returns : goal.returns
returns g c = λ ss a b. seq-followed_by ss a b
