-- What the steps make is the one thing that they do.
use Rattle.plinq_closures.specs.inner.Only.{given-answer}
use Rattle.plinq_passing.proofs.made.Made.step_of.Goals as goal

pub returns : goal.returns
returns g c = given-answer (c.args.self.now.one c.args.x) c.step.result c.step.ensures
