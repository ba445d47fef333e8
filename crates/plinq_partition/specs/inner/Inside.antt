-- A partition while it is inside the lock: its pass is spent, and the enumerator is in its hands.
use Rattle.std.specs.Prelude.{◌≡◌, ℕ, ◌+◌, ◌≤◌, true}
use Rattle.plinq_source.specs.declared.source.Source.{Ghosts}
use Rattle.plinq_enumerator.specs.declared.enumerator.Enumerator.{Enumerator}
use Rattle.plinq_enumerator.specs.Held.{held_source, held_records}
use Rattle.plinq_ticket.specs.declared.held.Entry.{Entry}
use Rattle.plinq_ticket.specs.Passes.{IsHeldOf, Finds, held_origin, held_share, held_ticket, held_drawn}
use Rattle.plinq_partition.specs.declared.chunked.Chunked.{Chunked}
use Rattle.plinq_partition.specs.Partitions.{Holding}
use Rattle.plinq_partition.specs.PartitionRecords.{keys_rise_from}

module _ {S T : Type 0} {source : Ghosts S T} where
  -- what the partition has that is inside
  abbrev pub holding_inside : ℕ → Entry (Enumerator S T source) T → Holding T
  holding_inside requests held = record { origin = held_origin held; share = held_share held; requests = requests }

  -- it found the enumerator as all partitions left it, under a ticket that is at least the number of its requests
  pub record IsInside (chunked : Chunked S T source) (requests : ℕ) (held : Entry (Enumerator S T source) T) : Type 0 where
    pub of : IsHeldOf chunked.lock held
    pub finds : Finds (λ e. source.whole (held_source e)) held_records (held_origin held) (held_share held) held
    pub counted : requests ≤ held_ticket held
    pub drawn : held_drawn held ≡ held_ticket held + 1
    pub rising : keys_rise_from 0 (held_share held) ≡ true
