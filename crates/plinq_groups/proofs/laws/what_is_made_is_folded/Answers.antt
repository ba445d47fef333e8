use Rattle.plinq_groups.specs.FoldedEach.{fold_of-each}
use Rattle.plinq_groups.proofs.laws.what_is_made_is_folded.Goals as goal

pub returns : goal.returns
returns g c = λ step f xs. fold_of-each step f xs
