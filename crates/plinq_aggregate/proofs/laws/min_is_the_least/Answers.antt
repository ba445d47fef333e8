use Rattle.plinq_aggregate.specs.Lawful.{fold_of-min}
use Rattle.plinq_aggregate.proofs.laws.min_is_the_least.Goals as goal

pub returns : goal.returns
returns c = λ min xs. fold_of-min xs
