use Rattle.plinq_steps.specs.Enough.{lifted, follows_enough}
use Rattle.plinq_steps.proofs.indexed.IndexedPositional.enough.Goals as goal

pub returns : goal.returns
returns g c = lifted c.enough.result (λ n. follows_enough n) c.enough.ensures
