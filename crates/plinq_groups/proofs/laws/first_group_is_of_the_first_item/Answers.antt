use Rattle.plinq_groups.specs.FirstGroup.{first-group}
use Rattle.plinq_groups.proofs.laws.first_group_is_of_the_first_item.Goals as goal

pub returns-clause-first : goal.returns-clause-first
returns-clause-first g c = λ key f x xs. first-group g.K.PartialEq.eq key f x xs
