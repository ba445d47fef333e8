use Rattle.std.proofs.Common.{rules}
use Rattle.plinq_partition.proofs.chunked.Chunked.dynamic.Goals as goal

pub returns-clause-same : goal.returns-clause-same
returns-clause-same g c = search rules

pub returns-clause-new : goal.returns-clause-new
returns-clause-new g c = search rules
