use Rattle.plinq_aggregate.specs.Lawful.{fold_of-sum}
use Rattle.plinq_aggregate.proofs.laws.sum_is_the_whole_sum.Goals as goal

pub returns : goal.returns
returns c = λ sum xs. fold_of-sum xs
