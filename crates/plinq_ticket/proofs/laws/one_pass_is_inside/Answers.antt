use Rattle.plinq_ticket.proofs.Free.{alone_inside}
use Rattle.plinq_ticket.proofs.laws.one_pass_is_inside.Goals as goal

pub returns : goal.returns
returns g c = alone_inside g.V.Guarded.origin g.V.Guarded.history
