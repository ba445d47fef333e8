-- What the steps make is the one thing that they do.
use Rattle.std.specs.Prelude.{Ok}
use Rattle.std.proofs.Common.{ap, sym}
use Rattle.plinq_passing.proofs.made.MadeMakeOf.make_of.Goals as goal

pub returns : goal.returns
returns g c = ap Ok (sym c.step_of.ensures)
