use Rattle.plinq_groups.specs.Lasting.{fold_of-last}
use Rattle.plinq_groups.proofs.laws.last_is_the_last_item.Goals as goal

pub returns : goal.returns
returns g c = λ xs. fold_of-last xs
