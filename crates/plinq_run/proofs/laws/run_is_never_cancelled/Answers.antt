use Rattle.plinq_run.proofs.Stopping.{reports-never}
use Rattle.plinq_run.proofs.laws.run_is_never_cancelled.Goals as goal

pub returns : goal.returns
returns g c = λ option ordered ops t s s' result. reports-never _ _ _ _ _ _ _ result
