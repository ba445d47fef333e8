use Rattle.plinq_run.proofs.Stopping.{reports-with-runs}
use Rattle.plinq_run.proofs.laws.ordered_run_with_is_sequential.Goals as goal

pub returns : goal.returns
returns g c = λ option ops t d d' result. reports-with-runs _ _ _ _ _ _ _ _ _ result (λ u may. may)
