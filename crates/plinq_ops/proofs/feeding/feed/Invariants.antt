use Rattle.plinq_ops.proofs.Through.{IsThrough}
use Rattle.plinq_ops.proofs.feeding.feed.Given as goal

-- the item has gone through the operators before this one
abbrev pub invariant-loop-at : goal.invariant-loop-at
invariant-loop-at g l = IsThrough g.L.Lambda.meaning l.fn.ops l.fn.item l.fn.out.items l.out.items l.at l.ops l.item
