use Rattle.std.proofs.Common.{arith, ap, length}
use Rattle.plinq_partition.proofs.Indexes.{length-keyed_from}
use Rattle.plinq_partition.proofs.range_parts.RangePartsElements.count.Goals as goal

pub returns : goal.returns
returns g c = omega (arith, length-keyed_from 0 c.args.self.now, ap length c.self.view_is, c.self.inside.values.ok.0)
