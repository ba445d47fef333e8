use Rattle.plinq_steps.specs.Enough.{lifted, by_enough}
use Rattle.plinq_steps.proofs.taken_while.TakenWhilePositional.enough.Goals as goal

pub returns : goal.returns
returns g c = lifted c.enough.result (λ n. by_enough n) c.enough.ensures
