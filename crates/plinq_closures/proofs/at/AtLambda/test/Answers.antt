-- What the step answers is the one thing that it gives.
use Rattle.plinq_closures.specs.inner.Only.{given-answer}
use Rattle.plinq_closures.proofs.at.AtLambda.test.Goals as goal

pub returns : goal.returns
returns g c = given-answer (c.args.self.now.one_test c.args.x) c.test.result c.test.ensures
