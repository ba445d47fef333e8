use Rattle.std.proofs.Common.{arith}
use Rattle.plinq_ticket.proofs.LockSteps.{allows-see_serving}
use Rattle.plinq_ticket.proofs.ticket_lock.TicketLock.see_serving.Goals as goal

pub load-requires : goal.load-requires
load-requires g c = let two = c.requires.words in (c.requires.same, omega arith, allows-see_serving _ _ _ _ _ _)
