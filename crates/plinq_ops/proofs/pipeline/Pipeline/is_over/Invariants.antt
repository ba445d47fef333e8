use Rattle.std.proofs.Common.{◌≡◌, drop}
use Rattle.plinq_ops.specs.Stage.{some_takes_none}
use Rattle.plinq_ops.specs.Pipeline.{stages_now}
use Rattle.plinq_ops.proofs.pipeline.Pipeline.is_over.Given as goal

-- none of the operators before this one takes none
abbrev pub invariant-loop-op : goal.invariant-loop-op
invariant-loop-op g l =
    some_takes_none (stages_now g.L.Lambda.meaning (drop l.op-index l.self.remaining)) ≡ some_takes_none (stages_now g.L.Lambda.meaning l.self.remaining)
