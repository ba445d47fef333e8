use Rattle.plinq_ops.proofs.Glue.{glued_trace-append}
use Rattle.plinq_ops.proofs.laws.chunks_glue.Goals as goal

pub returns : goal.returns
returns g c = λ meaning worker key xs ys e. glued_trace-append meaning worker key xs ys e
