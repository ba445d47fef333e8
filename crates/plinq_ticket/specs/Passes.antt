-- What a clause says of a pass, and of what is held.
use Rattle.std.specs.Prelude.{◌≡◌, ℕ, ◌+◌, ◌<◌, ◌≤◌, List, true}
use Rattle.atomic_table.specs.Seated.{TableId}
use Rattle.plinq_source.specs.Trace.{Trace}
use Rattle.plinq_keyed.specs.declared.record.Record.{Record}
use Rattle.plinq_keyed.specs.History.{IsLegalHistory, tickets_below}
use Rattle.plinq_ticket.specs.declared.lock_fault.LockFault.{LockFault}
use Rattle.plinq_ticket.specs.declared.pass.Token.{Token}
use Rattle.plinq_ticket.specs.declared.held.Entry.{Entry}
use Rattle.plinq_ticket.specs.declared.ticket_lock.TicketLock.{TicketLock}
use Rattle.plinq_ticket.specs.Turns.{tickets_end}
use Rattle.plinq_ticket.specs.Refusals.{IsCause}
use Rattle.plinq_ticket.specs.Shares.{Contains}
use Rattle.plinq_ticket.specs.Lawful.{origin_in}

-- a lock's table has two words and one slot
pub record IsLockAt (lock table : TableId) : Type 0 where
  pub same : table ≡ lock
  pub words : lock.words ≡ 2
  pub slots : lock.slots ≡ 1

module _ {V T : Type 0} where
  -- which lock it is
  abbrev pub lock_id : TicketLock V T → TableId
  lock_id l = l.table.shared.table_id

  -- a pass of that lock
  abbrev pub IsPassOf : TicketLock V T → Token V T → Type 0
  IsPassOf l p = IsLockAt (lock_id l) p.seat.table_id

  -- what the lock's value hands out
  abbrev pub pass_origin : Token V T → Trace T
  pass_origin p = origin_in p.seat.me.0

  -- the records of the pass
  abbrev pub pass_share : Token V T → List Record
  pass_share p = p.seat.me.0.share

  -- how many tickets the pass has seen drawn
  abbrev pub pass_drawn : Token V T → ℕ
  pass_drawn p = p.seat.me.0.standing.drawn

  -- how many tickets the pass has seen served
  abbrev pub pass_served : Token V T → ℕ
  pass_served p = p.seat.me.0.standing.served

  -- the value of that lock is held
  abbrev pub IsHeldOf : TicketLock V T → Entry V T → Type 0
  IsHeldOf l h = IsLockAt (lock_id l) h.stay.seat.table_id

  abbrev pub held_value : Entry V T → V
  held_value h = h.value

  abbrev pub held_ticket : Entry V T → ℕ
  held_ticket h = h.stay.ticket

  -- what the value handed out when it was taken
  abbrev pub held_origin : Entry V T → Trace T
  held_origin h = origin_in h.stay.seat.me.0

  -- the history that was found when the value was taken
  abbrev pub held_found : Entry V T → List Record
  held_found h = h.stay.seat.me.0.found

  -- the records of the pass that is inside
  abbrev pub held_share : Entry V T → List Record
  held_share h = h.stay.seat.me.0.share

  -- how many tickets the pass that is inside has seen drawn
  abbrev pub held_drawn : Entry V T → ℕ
  held_drawn h = h.stay.seat.me.0.standing.drawn

  -- What is found inside, by a pass with that share: the value as all passes left it
  pub record Finds (origin : V → Trace T) (history : V → List Record) (t : Trace T) (share : List Record) (h : Entry V T) : Type 0 where
    pub value_origin : origin (held_value h) ≡ t
    pub value_history : history (held_value h) ≡ held_found h
    pub same_origin : held_origin h ≡ t
    pub same_share : held_share h ≡ share
    pub legal : IsLegalHistory t (held_found h)
    pub contains : Contains (held_found h) share
    pub below : tickets_below (held_ticket h) (held_found h) ≡ true
    pub within : held_ticket h < tickets_end

  -- a pass enters under a ticket that is at least each number that it had seen drawn or served
  pub record Enters (origin : V → Trace T) (history : V → List Record) (p : Token V T) (h : Entry V T) : Type 0 where
    pub finds : Finds origin history (pass_origin p) (pass_share p) h
    pub later : pass_drawn p ≤ held_ticket h
    pub passed : pass_served p ≤ held_ticket h
    pub drawn : held_drawn h ≡ held_ticket h + 1

  -- a pass comes back as it was but for what it has seen, with a fault for its cause
  pub record IsRefused (p q : Token V T) (fault : LockFault) : Type 0 where
    pub cause : IsCause q.seat.me.0.standing fault
    pub origin : pass_origin q ≡ pass_origin p
    pub share : pass_share q ≡ pass_share p
    pub drawn : pass_drawn p ≤ pass_drawn q
    pub served : pass_served p ≤ pass_served q
