-- What a clause says of a chunked source and its partitions.
use Rattle.std.specs.Prelude.{◌≡◌, ℕ, ◌+◌, ◌≤◌, ◌<◌, ◌^◌, List, [], ◌∷◌, ◌++◌, length, map, get_or, None, false, All, ⊤, ◌⊎◌, refl}
use Rattle.std.proofs.Common.{arith, ap, sym, ◌∙◌}
use Rattle.plinq_source.specs.declared.ending.Ending.TheVariants.{End}
use Rattle.plinq_source.specs.declared.source.Source.{Ghosts}
use Rattle.plinq_source.specs.Trace.{Trace, ended_trace}
use Rattle.plinq_keyed.specs.declared.chunk.Chunk.{Chunk}
use Rattle.plinq_keyed.specs.declared.event.Event.{Event}
use Rattle.plinq_keyed.specs.declared.event.Event.TheVariants.{Ask, Close}
use Rattle.plinq_keyed.specs.declared.record.Record.{Record}
use Rattle.plinq_keyed.specs.declared.keyed.Keyed.{Keyed}
use Rattle.plinq_keyed.specs.declared.properties.KeyProperties.{KeyProperties}
use Rattle.plinq_keyed.specs.History.{Place, reply, request_record, record_items, handed_out, IsChunkOf, IsLegalHistory}
use Rattle.plinq_keyed.specs.Keys.{Keeps}
use Rattle.plinq_enumerator.specs.Growing.{GrowthRule, size_at}
use Rattle.plinq_ticket.specs.Shares.{in_ticket_order}
use Rattle.plinq_partition.specs.declared.chunked.Chunked.{Chunked}
use Rattle.plinq_partition.specs.declared.partition.Partition.{Partition}
use Rattle.plinq_partition.specs.declared.take_fault.TakeFault.{TakeFault}
use Rattle.plinq_partition.specs.declared.take_fault.TakeFault.TheVariants.{Memory, Spent, Busy, Incomplete, Away}
use Rattle.plinq_partition.specs.PartitionRecords.{IsAt, origin_at, share_at, drawn_at, served_at}

-- what a partition has: what its source hands out, the records that are its own, and how many chunks it was given
pub record Holding (T : Type 0) : Type 0 where
  pub origin : Trace T
  pub share : List Record
  pub requests : ℕ

-- one record came after a share: it says what the source replies at the place where the enumerator stood
pub record Adds {T : Type 0} (a b : Holding T) (asked : Event) (entry : Record) : Type 0 where
  pub origin : b.origin ≡ a.origin
  pub share : b.share ≡ a.share ++ entry ∷ []
  pub asked_is : entry.asked ≡ asked
  pub place : Place
  pub replied : entry ≡ request_record entry.ticket entry.asked (reply a.origin place entry.asked)

-- A chunk was taken by a request for so many items: it is that of one record more
pub record IsTakenOf {T : Type 0} (n : ℕ) (a b : Holding T) (chunk : Chunk T) : Type 0 where
  pub entry : Record
  pub adds : Adds a b (Ask n) entry
  pub some : 1 ≤ n
  pub of : IsChunkOf a.origin entry chunk
  pub counted : length chunk.items.items ≡ entry.count
  pub within : chunk.first + length chunk.items.items ≤ length a.origin.items
  pub requests : b.requests ≡ a.requests + 1

-- The request was for as many items as the growth says. So the records of a partition that has only taken so ask for chunks
-- number 0, 1, 2 and so on of the growth. Where its caller takes no more after a tail, the last record alone has one.
abbrev pub IsTaken : {T : Type 0} → GrowthRule → Holding T → Holding T → Chunk T → Type 0
IsTaken growth a b chunk = IsTakenOf (size_at growth a.requests) a b chunk

-- the source was closed: there is one Close more
pub record IsStopped {T : Type 0} (a b : Holding T) : Type 0 where
  pub entry : Record
  pub adds : Adds a b Close entry
  pub requests : b.requests ≡ a.requests

-- a new partition beside another was given nothing
abbrev pub new_beside : {T : Type 0} → Holding T → Holding T
new_beside a = record { origin = a.origin; share = []; requests = 0 }

module _ {S T : Type 0} {source : Ghosts S T} where
  -- what a partition has, as its pass of the lock knows it
  abbrev pub holding_of : Partition S T source → Holding T
  holding_of p = record { origin = origin_at p.pass; share = share_at p.pass; requests = p.requests }

  -- a partition of that source
  abbrev pub IsPartitionOf : Chunked S T source → Partition S T source → Type 0
  IsPartitionOf chunked p = IsAt chunked.lock p.requests p.pass

  -- it is a partition of whatever source it was one of
  abbrev pub StaysOf : Partition S T source → Partition S T source → Type 0
  StaysOf p q = (chunked : Chunked S T source) → IsPartitionOf chunked p → IsPartitionOf chunked q

  -- how the chunks of its partitions grow
  abbrev pub growth_of : Chunked S T source → GrowthRule
  growth_of chunked = chunked.growth

  -- a fault is reported only for its cause, which the partition has now seen
  abbrev pub IsCauseOf : Partition S T source → TakeFault → Type 0
  IsCauseOf q Memory = ⊤
  IsCauseOf q Spent = (drawn_at q.pass ≡ 2 ^ 62) ⊎ (served_at q.pass ≡ 2 ^ 62)
  IsCauseOf q (Busy served drawn) = (served < drawn) × (drawn < 2 ^ 62) × (served_at q.pass ≡ served) × (drawn_at q.pass ≡ drawn)
  IsCauseOf q (Incomplete have all) = ⊥
  IsCauseOf q Away = ⊥

  -- nothing was taken, and the partition is as it was but for what it has seen of the lock
  pub record IsRefused (p q : Partition S T source) (fault : TakeFault) : Type 0 where
    pub same : holding_of q ≡ holding_of p
    pub cause : IsCauseOf q fault
    pub drawn : drawn_at p.pass ≤ drawn_at q.pass
    pub served : served_at p.pass ≤ served_at q.pass

  -- new partitions beside one
  abbrev pub AreNew : Holding T → List (Partition S T source) → Type 0
  AreNew a [] = ⊤
  AreNew a (q ∷ qs) = (holding_of q ≡ new_beside a) × AreNew a qs

  -- the one that was given, and new ones beside it
  abbrev pub AreMadeFrom : Holding T → List (Partition S T source) → Type 0
  AreMadeFrom a [] = ⊥
  AreMadeFrom a (q ∷ qs) = (holding_of q ≡ a) × AreNew a qs

  -- the records of several partitions, together
  abbrev pub all_shares : List (Partition S T source) → List Record
  all_shares [] = []
  all_shares (p ∷ ps) = share_at p.pass ++ all_shares ps

  -- the elements that each of several partitions got
  abbrev pub lists_of : Trace T → List (Partition S T source) → List (List (Keyed T))
  lists_of t ps = map (λ p. handed_out t (share_at p.pass)) ps

  -- what is promised of a source's partitions, these have, where their records together are a legal history
  abbrev pub KeepsPromise : (Chunked S T source → KeyProperties) → Type 0
  KeepsPromise promised = (c : Chunked S T source) (ps : List (Partition S T source)) (t : Trace T)
      → All (IsPartitionOf c) ps → IsLegalHistory t (in_ticket_order (all_shares ps)) → Keeps (promised c) (lists_of t ps)

-- those that may wait are never answered that others came before
abbrev pub IsNotBusy : TakeFault → Type 0
IsNotBusy Memory = ⊤
IsNotBusy Spent = ⊤
IsNotBusy (Busy served drawn) = ⊥
IsNotBusy (Incomplete have all) = ⊥
IsNotBusy Away = ⊥

-- ---- a partition of the items 7, 8 and 9 that has taken the first of them

abbrev three_items : Trace ℕ
three_items = ended_trace (7 ∷ 8 ∷ 9 ∷ []) End

abbrev first_record : Record
first_record = record { ticket = 4; asked = Ask 1; first = 0; count = 1; tail = None }

-- it takes the next two, under a later ticket
abbrev next_record : ℕ → Record
next_record count = record { ticket = 6; asked = Ask 2; first = 1; count = count; tail = None }

abbrev having : List Record → ℕ → Holding ℕ
having share requests = record { origin = three_items; share = share; requests = requests }

-- chunks of one, two and then four items
abbrev doubling : GrowthRule
doubling = record { first = 1; repeat = 1; max = 4 }

-- the chunk's items are those of the record that was added
the_next_two : (chunk : Chunk ℕ) → chunk.first ≡ 1 → chunk.items.items ≡ 8 ∷ 9 ∷ [] → chunk.tail ≡ None
    → IsTaken doubling (having (first_record ∷ []) 1) (having (first_record ∷ next_record 2 ∷ []) 2) chunk
the_next_two chunk first items tail = record {
  entry = next_record 2;
  adds = record { origin = refl; share = refl; asked_is = refl; place = record { given = 1; closed = false }; replied = refl };
  some = omega arith;
  of = record { first = first; items = items; tail = tail };
  counted = ap length items;
  within = rw first (rw items (omega arith));
  requests = refl;
}

-- not those of another
another_item : (chunk : Chunk ℕ) → chunk.items.items ≡ 7 ∷ 9 ∷ [] → (b : Holding ℕ) → b.share ≡ first_record ∷ next_record 2 ∷ []
    → IsTaken doubling (having (first_record ∷ []) 1) b chunk → ⊥
another_item chunk items b share taken =
    let same : next_record 2 ≡ taken.entry = ap (λ rs. get_or rs 1 first_record) (sym share ∙ taken.adds.share) in
    let eight : 8 ≡ 7 = ap (λ r. get_or (record_items three_items r) 0 0) same ∙ ap (λ xs. get_or xs 0 0) (sym taken.of.items ∙ items) in
    omega (arith, eight)

-- and the record that was added is there
no_record : (chunk : Chunk ℕ) → IsTaken doubling (having (first_record ∷ []) 1) (having (first_record ∷ []) 2) chunk → ⊥
no_record chunk taken = omega (arith, ap length taken.adds.share)
