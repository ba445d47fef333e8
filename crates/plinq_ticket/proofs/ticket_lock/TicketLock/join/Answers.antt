use Rattle.std.proofs.Common.{arith}
use Rattle.plinq_ticket.proofs.LockSteps.{joins}
use Rattle.plinq_ticket.proofs.ticket_lock.TicketLock.join.Goals as goal

pub join_seat-requires : goal.join_seat-requires
join_seat-requires g c =
    let two = c.requires.0.words in
    (c.requires.0.same, c.requires.1.same, c.args.other.empty, omega arith, joins _ _ _ _ _ _ _ c.args.pass.idle c.args.other.idle)
