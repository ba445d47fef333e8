use Rattle.std.proofs.Common.{◌≡◌, ◌≤◌, take, drop, length}
use Rattle.plinq_lambda.specs.Block.{filtered_block}
use Rattle.plinq_closures.proofs.ClosureBlocks.{IsSoFar}
use Rattle.plinq_closures.proofs.block_closures.filter_each.Given as goal

-- of the items before this one those that pass stand at the front, the others are as they were
abbrev pub invariant-loop-at : goal.invariant-loop-at
invariant-loop-at g l =
    IsSoFar filtered_block (goal.P-post g l.by) l.fn.block (take l.kept l.block) (drop l.at l.fn.block)
    × (drop l.at l.block ≡ drop l.at l.fn.block)
    × (length l.block ≡ length l.fn.block)
    × (l.kept ≤ l.at)
