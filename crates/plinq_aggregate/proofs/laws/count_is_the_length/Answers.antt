use Rattle.plinq_aggregate.specs.Lawful.{fold_of-count}
use Rattle.plinq_aggregate.proofs.laws.count_is_the_length.Goals as goal

pub returns : goal.returns
returns c = λ count xs. fold_of-count xs
