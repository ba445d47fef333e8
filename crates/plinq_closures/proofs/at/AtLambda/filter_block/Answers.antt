-- What the step makes of a block is what its one answer to each item makes.
use Rattle.plinq_closures.specs.inner.Only.{given-answer}
use Rattle.plinq_closures.proofs.at.AtLambda.filter_block.Goals as goal

pub returns-clause-filtered : goal.returns-clause-filtered
returns-clause-filtered g c = c.filter_block.ensures.filtered.is _ (λ x r given. given-answer (c.args.self.now.one_test x) r given)
