use Rattle.plinq_partition.proofs.Promised.{indexes-promised}
use Rattle.plinq_partition.proofs.range_parts.RangeParts.partitions.Goals as goal

pub returns-clause-promised : goal.returns-clause-promised
returns-clause-promised g c = indexes-promised c.args.self.now c.args.n c.cut_elements.result c.cut_elements.ensures.some c.cut_elements.ensures.cut
