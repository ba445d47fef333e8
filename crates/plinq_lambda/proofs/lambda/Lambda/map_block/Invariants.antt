use Rattle.std.proofs.Common.{◌≡◌, take, drop, length}
use Rattle.plinq_lambda.proofs.SoFar.{IsMappedSoFar}
use Rattle.plinq_lambda.proofs.lambda.Lambda.map_block.Given as goal

-- the items before this one are mapped, the others as they were
abbrev pub invariant-loop-at : goal.invariant-loop-at
invariant-loop-at g l =
    IsMappedSoFar (g.Self.Lambda.meaning l.self).map l.fn.block (take l.at l.block) (drop l.at l.fn.block)
    × (drop l.at l.block ≡ drop l.at l.fn.block)
    × (length l.block ≡ length l.fn.block)
