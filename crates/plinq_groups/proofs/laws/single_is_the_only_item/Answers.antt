use Rattle.plinq_groups.specs.Singles.{fold_of-single}
use Rattle.plinq_groups.proofs.laws.single_is_the_only_item.Goals as goal

pub returns : goal.returns
returns g c = λ xs. fold_of-single xs
