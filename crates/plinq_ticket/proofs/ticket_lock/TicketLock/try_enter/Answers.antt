use Rattle.std.proofs.Common.{rules}
use Rattle.plinq_ticket.proofs.ticket_lock.TicketLock.try_enter.Goals as goal

pub returns-then-drawn-eq-TICKETS_END-clause-err : goal.returns-then-drawn-eq-TICKETS_END-clause-err
returns-then-drawn-eq-TICKETS_END-clause-err g c = search rules

pub returns-else-drawn-eq-TICKETS_END-clause-err : goal.returns-else-drawn-eq-TICKETS_END-clause-err
returns-else-drawn-eq-TICKETS_END-clause-err g c = search rules
