use Rattle.std.proofs.Common.{arith}
use Rattle.plinq_ticket.proofs.LockSteps.{allows-leave}
use Rattle.plinq_ticket.proofs.ticket_lock.TicketLock.serve_next.Goals as goal

pub store-requires : goal.store-requires
store-requires g c =
    let two = c.requires.lock.words in
    (c.requires.lock.same, omega arith, allows-leave _ _ _ _ _ _ c.args.ticket c.requires.inside c.requires.home)
