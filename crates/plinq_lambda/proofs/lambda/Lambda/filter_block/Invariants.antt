use Rattle.std.proofs.Common.{◌≡◌, ◌≤◌, take, drop, length}
use Rattle.plinq_lambda.proofs.SoFar.{IsFilteredSoFar}
use Rattle.plinq_lambda.proofs.lambda.Lambda.filter_block.Given as goal

-- of the items before this one those that pass stand at the front, the others are as they were
abbrev pub invariant-loop-at : goal.invariant-loop-at
invariant-loop-at g l =
    IsFilteredSoFar (g.Self.Lambda.meaning l.self).test l.fn.block (take l.kept l.block) (drop l.at l.fn.block)
    × (drop l.at l.block ≡ drop l.at l.fn.block)
    × (length l.block ≡ length l.fn.block)
    × (l.kept ≤ l.at)
