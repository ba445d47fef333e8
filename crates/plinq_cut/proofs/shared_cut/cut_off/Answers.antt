use Rattle.std.proofs.Common.{rules}
use Rattle.plinq_cut.proofs.shared_cut.cut_off.Goals as goal

pub returns-in-Some-clause-lowers : goal.returns-in-Some-clause-lowers
returns-in-Some-clause-lowers g c = search rules

pub lower-requires : goal.lower-requires
lower-requires g c = search rules
