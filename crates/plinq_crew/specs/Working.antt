-- What a worker sends, and what it brings back.
use Rattle.std.specs.Prelude.{◌≡◌, ◌≤◌, ◌-◌, ℕ, List, [], ◌∷◌, ◌++◌, Option, Some, None, is_some, true, false, All, IfSome}
use Rattle.std.specs.List.{AllZip, Any}
use Rattle.plinq_source.specs.declared.source.Source.{Ghosts}
use Rattle.plinq_keyed.specs.declared.event.Event.TheVariants.{Close}
use Rattle.plinq_keyed.specs.declared.record.Record.{Record}
use Rattle.plinq_ops.specs.declared.results.ChunkResult.{ChunkResult}
use Rattle.plinq_partition.specs.declared.partition.Partition.{Partition}
use Rattle.plinq_partition.specs.declared.take_fault.TakeFault.{TakeFault}
use Rattle.plinq_partition.specs.declared.chunked.Chunked.{Chunked}
use Rattle.plinq_partition.specs.Partitions.{IsPartitionOf, holding_of}
use Rattle.plinq_stream.specs.declared.pass_knowledge.PassKnowledge.{PassKnowledge}
use Rattle.plinq_stream.specs.declared.sent.Sent.{Sent}
use Rattle.plinq_stream.specs.declared.stream.Stream.{Stream}
use Rattle.plinq_stream.specs.declared.stream_pass.StreamPass.{StreamPass}
use Rattle.plinq_stream.specs.Knowing.{numbers_from}
use Rattle.plinq_stream.specs.Passes.{IsPassOf, IsBeside, knowledge_of}
use Rattle.plinq_stream.specs.Streams.{has, under}
use Rattle.plinq_crew.specs.declared.starting.WorkerFaults.{WorkerFaults}
use Rattle.plinq_crew.specs.Noted.{has_noted}
use Rattle.plinq_crew.specs.declared.worker.Worked.{Worked}

-- records may have come after a share
pub record HasLeft (share share' : List Record) : Type 0 where
  pub more : List Record
  pub share_is : share' ≡ share ++ more

-- one of a share's records is a request to close the source
abbrev pub HasClosed : List Record → Type 0
HasClosed share = Any (λ r. r.asked ≡ Close) share

module _ {T : Type 0} where
  -- the result says of its chunk what the record says: where it begins, how many items it has, and its tail
  pub record Answers (entry : Record) (r : ChunkResult T) : Type 0 where
    pub first : r.first ≡ entry.first
    pub count : r.count ≡ entry.count
    pub tail : r.tail ≡ entry.tail

  -- the result is of the chunk of one of these records
  abbrev pub IsOfOne : List Record → ChunkResult T → Type 0
  IsOfOne share r = Any (λ entry. Answers entry r) share

  -- more may come after the result's chunk
  abbrev pub IsOpen : ChunkResult T → Type 0
  IsOpen r = r.tail ≡ None

  -- the last result has a tail, and no other
  pub record StopsAtTail (rs : List (ChunkResult T)) : Type 0 where
    pub before : List (ChunkResult T)
    pub last : ChunkResult T
    pub are : rs ≡ before ++ last ∷ []
    pub opens : All IsOpen before
    pub tail : is_some last.tail ≡ true

  -- how a worker stopped that left the rest of its records unanswered: at a tail, with none left, or before one, for a fault
  abbrev pub Stops : Option TakeFault → List Record → List (ChunkResult T) → Type 0
  Stops None rest rs = (rest ≡ []) × StopsAtTail rs
  Stops (Some fault) rest rs = All IsOpen rs

  -- These are, in order, the results of the first of these records. Where there was no fault they are those of all of them,
  -- and the last has a tail; no other has one.
  pub record Follows (share : List Record) (fault : Option TakeFault) (rs : List (ChunkResult T)) : Type 0 where
    pub answered : List Record
    pub rest : List Record
    pub share_is : share ≡ answered ++ rest
    pub are : AllZip Answers answered rs
    pub stops : Stops fault rest rs

  -- one record came after a share, and this is its chunk's result
  pub record HasTakenChunk (share share' : List Record) (r : ChunkResult T) : Type 0 where
    pub entry : Record
    pub share_is : share' ≡ share ++ entry ∷ []
    pub answers : Answers entry r

  -- all that the pass knows is that it may send under this number alone, and has sent these
  abbrev pub sender : ℕ → List (Sent (ChunkResult T)) → PassKnowledge (ChunkResult T)
  sender number sent = record { numbers = number ∷ []; sent = sent; receives = false; received = [] }

  -- a worker that goes on: it has sent the results of all its records, under its number and nothing under any other, and none
  -- has a tail
  pub record IsAtWork (number : ℕ) (share : List Record) (a : PassKnowledge (ChunkResult T)) : Type 0 where
    pub knows : a ≡ sender number a.sent
    pub own : All (λ s. s.number ≡ number) a.sent
    pub are : AllZip Answers share (under number a.sent)
    pub opens : All IsOpen (under number a.sent)

  -- a worker has sent so under its number, and nothing under any other
  pub record HasWorked (number : ℕ) (share : List Record) (fault : Option TakeFault) (a : PassKnowledge (ChunkResult T)) : Type 0 where
    pub knows : a ≡ sender number a.sent
    pub own : All (λ s. s.number ≡ number) a.sent
    pub follows : Follows share fault (under number a.sent)

  -- the receiving pass while numbers are handed out: it has those from this one on, and has sent and received nothing
  abbrev pub receiver_from : ℕ → PassKnowledge (ChunkResult T)
  receiver_from number = record { numbers = numbers_from number (64 - number); sent = []; receives = true; received = [] }

  -- a pass has the numbers from this one on
  abbrev pub HasNumbersFrom : ℕ → PassKnowledge (ChunkResult T) → Type 0
  HasNumbersFrom number a = a.numbers ≡ numbers_from number (64 - number)

  -- the receiving pass has sent nothing
  pub record IsReceiver (a : PassKnowledge (ChunkResult T)) : Type 0 where
    pub receives : a.receives ≡ true
    pub sent : a.sent ≡ []

-- a worker is started with a partition that was given nothing, and a pass that may send under its number alone and has sent
-- nothing
pub record IsNewcomer {S T M C : Type 0} {source : Ghosts S T} (stream : Stream (ChunkResult M) C) (number : ℕ)
    (partition : Partition S T source) (pass : StreamPass (ChunkResult M)) : Type 0 where
  pub of : IsPassOf stream pass
  pub knows : knowledge_of pass ≡ sender number []
  pub share : (holding_of partition).share ≡ []

module _ {S T M : Type 0} {source : Ghosts S T} where
  -- what a worker brings back that was given this pass, under its number
  pub record IsBack (chunked : Chunked S T source) (given : StreamPass (ChunkResult M)) (number : ℕ) (back : Worked S M T source) : Type 0 where
    pub of : IsPartitionOf chunked back.partition
    pub pass : IsBeside given back.stream
    pub worked : HasWorked number (holding_of back.partition).share back.fault (knowledge_of back.stream)

  -- what was sent under one of the pass's numbers, which is at least that, are the results of the first records of this
  -- partition, and of all of them unless there was a fault, which was noted
  pub record IsAnsweredBy (least : ℕ) (a : PassKnowledge (ChunkResult M)) (faults : WorkerFaults) (p : Partition S T source) : Type 0 where
    pub number : ℕ
    pub above : least ≤ number
    pub own : has number a.numbers ≡ true
    pub fault : Option TakeFault
    pub noted : IfSome fault (λ f. has_noted faults f ≡ true)
    pub follows : Follows (holding_of p).share fault (under number a.sent)

  -- what was sent under one of the pass's numbers are the results of all records of this partition
  pub record IsWhollyAnsweredBy (a : PassKnowledge (ChunkResult M)) (p : Partition S T source) : Type 0 where
    pub number : ℕ
    pub own : has number a.numbers ≡ true
    pub follows : Follows (holding_of p).share None (under number a.sent)
