use Rattle.std.proofs.Common.{◌≡◌, ◌≤◌, ◌^◌, []}
use Rattle.plinq_ticket.specs.declared.phase.Phase.TheVariants.{Idle}
use Rattle.plinq_ticket.specs.Lawful.{origin_in}
use Rattle.plinq_ticket.specs.Passes.{IsLockAt, lock_id, pass_origin, pass_share, pass_drawn, pass_served}
use Rattle.plinq_ticket.proofs.ticket_lock.TicketLock.enter.Given as goal

abbrev pub invariant-loop : goal.invariant-loop
invariant-loop g l =
    IsLockAt (lock_id l.self) l.seat.table_id × (l.seat.me.0.standing.phase ≡ Idle) × (l.seat.me.1 ≡ []) × (l.records ≡ l.fn.pass.records)
    × (origin_in l.seat.me.0 ≡ pass_origin l.fn.pass) × (l.seat.me.0.share ≡ pass_share l.fn.pass)
    × (l.seat.me.0.standing.drawn ≡ l.drawn) × (l.drawn ≤ 2 ^ 62) × (pass_drawn l.fn.pass ≤ l.drawn) × (pass_served l.fn.pass ≤ l.seat.me.0.standing.served)
