use Rattle.plinq_ops.proofs.GrowingBatches.{held_back-fewer_than_batch}
use Rattle.plinq_ops.proofs.laws.fewer_are_held_back.Goals as goal

pub returns : goal.returns
returns g c = λ option xs. held_back-fewer_than_batch option xs
