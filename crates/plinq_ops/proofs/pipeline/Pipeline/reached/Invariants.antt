use Rattle.std.proofs.Common.{◌≡◌, ◌++◌, drop}
use Rattle.plinq_ops.specs.ByKey.{stages_at}
use Rattle.plinq_ops.specs.Pipeline.{stages_now}
use Rattle.plinq_ops.proofs.pipeline.Pipeline.reached.Given as goal

-- what is left of the operators before this one stands
abbrev pub invariant-loop-op : goal.invariant-loop-op
invariant-loop-op g l =
    stages_now g.L.Lambda.meaning l.left.items ++ stages_at g.L.Lambda.meaning (drop l.op-index l.ops) l.reached ≡ stages_at g.L.Lambda.meaning l.ops l.fn.count
