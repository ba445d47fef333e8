use Rattle.plinq_steps.specs.Enough.{lifted, follows_enough, taken_enough}
use Rattle.plinq_steps.proofs.taken.TakenPositional.enough.Goals as goal

pub returns-in-Some : goal.returns-in-Some
returns-in-Some g c = follows_enough c.in-Some.n c.in-Some.ensures

pub returns-in-None : goal.returns-in-None
returns-in-None g c = lifted c.needs.result (λ n. taken_enough c.args.self.now.left n) c.needs.ensures
