-- What the step makes of a block is what its one answer to each item makes.
use Rattle.plinq_closures.specs.inner.Only.{given-answer}
use Rattle.plinq_closures.proofs.at.AtLambda.count_passing.Goals as goal

pub returns-clause-passing : goal.returns-clause-passing
returns-clause-passing g c = c.count_passing.ensures.passing.is _ (λ x r given. given-answer (c.args.self.now.one_test x) r given)
