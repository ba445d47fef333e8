use Rattle.std.proofs.Common.{arith}
use Rattle.plinq_ticket.proofs.LockSteps.{allows-draw}
use Rattle.plinq_ticket.proofs.ticket_lock.TicketLock.draw.Goals as goal

pub compare_exchange-requires : goal.compare_exchange-requires
compare_exchange-requires g c =
    let two = c.requires.lock.words in
    (c.requires.lock.same, omega arith, allows-draw _ _ _ _ _ _ c.args.ticket c.requires.within c.requires.idle)
