use Rattle.std.proofs.Common.{◌≡◌, []}
use Rattle.plinq_ticket.specs.declared.phase.Phase.TheVariants.{Waiting}
use Rattle.plinq_ticket.specs.Lawful.{origin_in}
use Rattle.plinq_ticket.specs.Passes.{IsLockAt, lock_id}
use Rattle.plinq_ticket.proofs.ticket_lock.TicketLock.wait.Given as goal

abbrev pub invariant-loop : goal.invariant-loop
invariant-loop g l =
    IsLockAt (lock_id l.self) l.seat.table_id × (l.seat.me.0.standing.phase ≡ Waiting l.ticket) × (l.seat.me.1 ≡ [])
    × (origin_in l.seat.me.0 ≡ origin_in l.fn.seat.me.0) × (l.seat.me.0.share ≡ l.fn.seat.me.0.share)
    × (l.seat.me.0.standing.drawn ≡ l.fn.seat.me.0.standing.drawn)
