use Rattle.std.proofs.Common.{rules}
use Rattle.plinq_ticket.proofs.ticket_lock.TicketLock.enter.Goals as goal

pub wait-requires-clause-waits : goal.wait-requires-clause-waits
wait-requires-clause-waits g c = search rules

pub returns-then-found-drawn-clause-ok : goal.returns-then-found-drawn-clause-ok
returns-then-found-drawn-clause-ok g c = search rules
