use Rattle.plinq_run.proofs.Stopping.{reports-runs}
use Rattle.plinq_run.proofs.laws.ordered_run_is_sequential.Goals as goal

pub returns : goal.returns
returns g c = λ option ops t s s' result. reports-runs _ _ _ _ _ _ _ _ result (λ u may. may)
