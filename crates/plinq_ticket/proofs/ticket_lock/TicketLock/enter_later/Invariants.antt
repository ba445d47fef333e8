use Rattle.std.proofs.Common.{◌≡◌, ◌≤◌}
use Rattle.plinq_ticket.specs.Passes.{IsPassOf, pass_origin, pass_share, pass_drawn, pass_served}
use Rattle.plinq_ticket.proofs.ticket_lock.TicketLock.enter_later.Given as goal

abbrev pub invariant-loop : goal.invariant-loop
invariant-loop g l =
    IsPassOf l.self l.pass × (pass_origin l.pass ≡ pass_origin l.fn.pass) × (pass_share l.pass ≡ pass_share l.fn.pass)
    × (pass_drawn l.fn.pass ≤ pass_drawn l.pass) × (pass_served l.fn.pass ≤ pass_served l.pass)
