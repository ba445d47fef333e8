-- How the run of a worker part ends.
use Rattle.std.specs.Prelude.{◌-◌, ℤ, List, [], ◌∷◌}
use Rattle.plinq_source.specs.Trace.{Trace}
use Rattle.plinq_lambda.specs.Meaning.{Meaning}
use Rattle.plinq_ops.specs.declared.op.Op.{Op}
use Rattle.plinq_ops.specs.Stage.{apply, seq}
use Rattle.plinq_ops.specs.Operator.{item_count, counted_off, stage_left}
use Rattle.plinq_ops.specs.Fragment.{position_after}
use Rattle.plinq_ops.specs.ByKey.{left_at}
use Rattle.plinq_ops.specs.Chunk.{IsWorkerEnding}
use Rattle.plinq_ops.proofs.Operators.{apply-ending}

-- operators never refuse
pub seq-ending : {L T : Type 0} (meaning : L → Meaning T) (ops : List (Op L)) (p : ℤ) (t : Trace T) → IsWorkerEnding t.ending
    → IsWorkerEnding (seq (left_at meaning ops p) t).ending
seq-ending meaning [] p t ending = ending
seq-ending meaning (op ∷ ops) p t ending =
    seq-ending meaning ops (position_after op p) (apply (stage_left meaning op (counted_off op - item_count p)) t)
    (apply-ending meaning op (counted_off op - item_count p) t ending)
