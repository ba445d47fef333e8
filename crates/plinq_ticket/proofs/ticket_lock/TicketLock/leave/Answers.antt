use Rattle.std.proofs.Common.{rules}
use Rattle.plinq_ticket.proofs.ticket_lock.TicketLock.leave.Goals as goal

pub serve_next-requires-clause-home : goal.serve_next-requires-clause-home
serve_next-requires-clause-home g c = search rules

pub exchange-requires : goal.exchange-requires
exchange-requires g c = search rules
