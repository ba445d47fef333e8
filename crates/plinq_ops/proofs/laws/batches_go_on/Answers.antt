use Rattle.std.proofs.Common.{[]}
use Rattle.plinq_ops.specs.Batches.{batch_size}
use Rattle.plinq_ops.proofs.GrowingBatches.{batches_from-grown}
use Rattle.plinq_ops.proofs.laws.batches_go_on.Goals as goal

pub returns : goal.returns
returns g c = λ option xs t. batches_from-grown (batch_size option) [] xs t
