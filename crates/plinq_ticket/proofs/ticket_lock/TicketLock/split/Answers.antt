use Rattle.std.proofs.Common.{arith}
use Rattle.plinq_ticket.proofs.LockSteps.{splits}
use Rattle.plinq_ticket.proofs.ticket_lock.TicketLock.split.Goals as goal

pub split_seat-other-requires : goal.split_seat-other-requires
split_seat-other-requires g c = let two = c.requires.words in (c.requires.same, omega arith, splits _ _ _ _ _ c.args.pass.idle)
