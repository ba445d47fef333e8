use Rattle.std.proofs.Common.{rules}
use Rattle.plinq_partition.proofs.pair_parts.PairParts.new.Goals as goal

pub returns-else-check_in_each : goal.returns-else-check_in_each
returns-else-check_in_each g c = search rules
