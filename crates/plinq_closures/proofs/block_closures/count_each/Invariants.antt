use Rattle.std.proofs.Common.{take, drop}
use Rattle.plinq_lambda.specs.Block.{passing_block}
use Rattle.plinq_closures.proofs.ClosureBlocks.{IsSoFar}
use Rattle.plinq_closures.proofs.block_closures.count_each.Given as goal

-- the items before this one pass
abbrev pub invariant-loop-at : goal.invariant-loop-at
invariant-loop-at g l = IsSoFar passing_block (goal.P-post g l.by) l.block (take l.at l.block) (drop l.at l.block)
