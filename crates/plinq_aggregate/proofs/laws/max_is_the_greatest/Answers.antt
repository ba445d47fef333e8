use Rattle.plinq_aggregate.specs.Lawful.{fold_of-max}
use Rattle.plinq_aggregate.proofs.laws.max_is_the_greatest.Goals as goal

pub returns : goal.returns
returns c = λ max xs. fold_of-max xs
