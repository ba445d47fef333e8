use Rattle.std.proofs.Common.{◌≡◌, take, drop, length}
use Rattle.plinq_lambda.specs.Block.{mapped_block}
use Rattle.plinq_closures.proofs.ClosureBlocks.{IsSoFar}
use Rattle.plinq_closures.proofs.block_closures.map_each.Given as goal

-- the items before this one are mapped, the others as they were
abbrev pub invariant-loop-at : goal.invariant-loop-at
invariant-loop-at g l =
    IsSoFar mapped_block (goal.F-post g l.by) l.fn.block (take l.at l.block) (drop l.at l.fn.block)
    × (drop l.at l.block ≡ drop l.at l.fn.block)
    × (length l.block ≡ length l.fn.block)
