use Rattle.std.proofs.Common.{None}
use Rattle.plinq_groups.proofs.MadeBlocks.{IsMadeAt}
use Rattle.plinq_groups.proofs.make_of.MakeOf.make_block.Given as goal

-- the list has what was made of the items so far
abbrev pub invariant-loop-x : goal.invariant-loop-x
invariant-loop-x g l = IsMadeAt (g.Self.MakeOf.makes l.self) l.fn.made.items l.block l.x-index l.made.items None
