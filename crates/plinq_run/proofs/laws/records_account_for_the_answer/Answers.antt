use Rattle.plinq_ops.specs.Sequential.{answer_of}
use Rattle.plinq_run.proofs.Stopping.{reports-accounts}
use Rattle.plinq_run.proofs.laws.records_account_for_the_answer.Goals as goal

pub returns : goal.returns
returns g c = λ option ops t s s' result. reports-accounts _ _ _ _ _ _ _ (answer_of g.L.Lambda.meaning ops) result (λ x u may. may)
