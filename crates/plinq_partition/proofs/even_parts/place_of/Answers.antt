use Rattle.std.proofs.Common.{rules}
use Rattle.plinq_partition.proofs.even_parts.place_of.Goals as goal

pub returns-clause-place : goal.returns-clause-place
returns-clause-place c = search rules
