use Rattle.plinq_run.proofs.Stopping.{reports-plain}
use Rattle.plinq_run.proofs.laws.run_with_never_is_run.Goals as goal

pub returns : goal.returns
returns g c = λ option ordered ops t d d' result. reports-plain _ _ _ _ _ _ _ _ (λ c c' n bad. cc) result
