-- What the layers above may know of a partition's records without looking into it.
use Rattle.std.proofs.Common.{◌≡◌, ℕ, true, Option, Some, None}
use Rattle.plinq_source.specs.declared.source.Source.{Ghosts}
use Rattle.plinq_ticket.specs.declared.pass.Token.{Token}
use Rattle.plinq_ticket.specs.declared.ticket_lock.TicketLock.{TicketLock}
use Rattle.plinq_partition.specs.declared.chunked.Chunked.{Chunked}
use Rattle.plinq_partition.specs.declared.partition.Partition.{Partition}
use Rattle.plinq_partition.specs.Partitions.{IsPartitionOf, holding_of}
use Rattle.plinq_partition.specs.PartitionRecords.{keys_rise_from, IsAt, share_at}

keys_rise-at : {V T : Type 0} (lock : TicketLock V T) (n : ℕ) (o : Option (Token V T)) → IsAt lock n o → keys_rise_from 0 (share_at o) ≡ true
keys_rise-at lock n None at = absurd at
keys_rise-at lock n (Some q) at = at.rising

pub keys_rise-of_partition : {S T : Type 0} {source : Ghosts S T} (chunked : Chunked S T source) (p : Partition S T source) → IsPartitionOf chunked p
    → keys_rise_from 0 (holding_of p).share ≡ true
keys_rise-of_partition chunked p of = keys_rise-at chunked.lock p.requests p.pass of
