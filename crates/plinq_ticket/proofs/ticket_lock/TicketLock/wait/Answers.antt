use Rattle.std.proofs.Common.{rules}
use Rattle.plinq_ticket.proofs.ticket_lock.TicketLock.wait.Goals as goal

pub take_value-requires-clause-inside : goal.take_value-requires-clause-inside
take_value-requires-clause-inside g c = search rules
