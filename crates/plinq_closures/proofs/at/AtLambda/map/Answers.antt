-- What the step answers is the one thing that it gives.
use Rattle.plinq_closures.specs.inner.Only.{given-answer}
use Rattle.plinq_closures.proofs.at.AtLambda.map.Goals as goal

pub returns : goal.returns
returns g c = given-answer (c.args.self.now.one_map c.args.x) c.map.result c.map.ensures
