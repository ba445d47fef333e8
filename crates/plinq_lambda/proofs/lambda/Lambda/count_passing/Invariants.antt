use Rattle.std.proofs.Common.{take, drop}
use Rattle.plinq_lambda.proofs.SoFar.{IsPassingSoFar}
use Rattle.plinq_lambda.proofs.lambda.Lambda.count_passing.Given as goal

-- the items before this one pass
abbrev pub invariant-loop-at : goal.invariant-loop-at
invariant-loop-at g l = IsPassingSoFar (g.Self.Lambda.meaning l.self).test l.block (take l.at l.block) (drop l.at l.block)
