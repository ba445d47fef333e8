-- What the step makes of a block is what its one answer to each item makes.
use Rattle.plinq_closures.specs.inner.Only.{given-answer}
use Rattle.plinq_closures.proofs.at.AtLambda.map_block.Goals as goal

pub returns-clause-mapped : goal.returns-clause-mapped
returns-clause-mapped g c = c.map_block.ensures.mapped.is _ (λ x r given. given-answer (c.args.self.now.one_map x) r given)
