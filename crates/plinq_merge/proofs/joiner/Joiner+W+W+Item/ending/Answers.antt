use Rattle.std.proofs.Common.{rules}
use Rattle.plinq_merge.proofs.joiner.Joiner+W+W+Item.ending.Goals as goal

pub returns-in-Decided : goal.returns-in-Decided
returns-in-Decided g c = search rules
