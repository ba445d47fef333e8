use Rattle.plinq_ops.proofs.Glue.{chunk_answer-uncut}
use Rattle.plinq_ops.proofs.laws.chunk_gives_its_fragments.Goals as goal

pub returns : goal.returns
returns g c = λ meaning worker cut key xs within. chunk_answer-uncut meaning worker cut key xs within
