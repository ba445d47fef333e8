use Rattle.std.proofs.Common.{◌≡◌, ◌+◌, drop, pos, false, []}
use Rattle.plinq_ops.specs.Stage.{some_takes_none}
use Rattle.plinq_ops.specs.ByKey.{left_at}
use Rattle.plinq_ops.specs.Pipeline.{stages}
use Rattle.plinq_ops.specs.Chunk.{chunk_answer, AfterItems}
use Rattle.plinq_ops.proofs.chunking.work_each.Given as goal

-- what is out, and after it what the rest gives, is what the chunk gives
abbrev pub invariant-loop-at : goal.invariant-loop-at
invariant-loop-at g l =
    AfterItems [] l.out.items
    (chunk_answer g.L.Lambda.meaning l.worker l.cut (l.first + l.at) (drop l.at l.items))
    (chunk_answer g.L.Lambda.meaning l.worker l.cut l.first l.items)
    × (stages g.L.Lambda.meaning l.pipeline ≡ left_at g.L.Lambda.meaning l.worker (pos (l.first + l.at)))
    × (some_takes_none (stages g.L.Lambda.meaning l.pipeline) ≡ false)
