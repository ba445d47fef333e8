use Rattle.plinq_ticket.proofs.Free.{free_while_home}
use Rattle.plinq_ticket.proofs.laws.free_lock_has_handed_out_a_prefix.Goals as goal

pub returns-clause-home : goal.returns-clause-home
returns-clause-home g c = free_while_home g.V.Guarded.origin g.V.Guarded.history

pub returns-clause-lock : goal.returns-clause-lock
returns-clause-lock g c = λ key s value held home.
    free_while_home g.V.Guarded.origin g.V.Guarded.history (g.V.Guarded.origin key.value) held.next held.serving s.homes s.views value held.fact home
