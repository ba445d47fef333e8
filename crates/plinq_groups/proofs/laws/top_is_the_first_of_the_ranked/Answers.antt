use Rattle.plinq_groups.specs.Topped.{fold_of-top}
use Rattle.plinq_groups.proofs.laws.top_is_the_first_of_the_ranked.Goals as goal

pub returns : goal.returns
returns g c = λ rank n xs. fold_of-top rank g.K.Ord.cmp n xs
