-- The caller's thread among its workers.
use Rattle.std.specs.Prelude.{◌≡◌, ◌≤◌, ℕ, Bool, List, length, true, false}
use Rattle.plinq_source.specs.declared.source.Source.{Ghosts}
use Rattle.plinq_lambda.specs.Meaning.{Meaning}
use Rattle.plinq_ops.specs.declared.results.ChunkResult.{ChunkResult}
use Rattle.plinq_partition.specs.declared.chunked.Chunked.{Chunked}
use Rattle.plinq_partition.specs.Partitions.{IsPartitionOf, IsStopped, holding_of}
use Rattle.plinq_stream.specs.declared.sent.Sent.{Sent}
use Rattle.plinq_stream.specs.declared.stream.Stream.{Stream}
use Rattle.plinq_stream.specs.declared.stream_pass.StreamPass.{StreamPass}
use Rattle.plinq_stream.specs.Passes.{IsPassOf, knowledge_of}
use Rattle.plinq_stream.specs.Streams.{HasReceivedAll}
use Rattle.plinq_crew.specs.declared.closing.Closing.{Closing}
use Rattle.plinq_crew.specs.declared.coordinator.Coordinator.{Coordinator}
use Rattle.plinq_crew.specs.declared.starting.Team.{Team}
use Rattle.plinq_crew.specs.declared.worker.Crew.{Crew}
use Rattle.plinq_crew.specs.Conducting.{AcceptsEach}
use Rattle.plinq_crew.specs.Equipped.{IsEquipped}
use Rattle.plinq_crew.specs.Noted.{has_worker_fault, StaysNoted}
use Rattle.plinq_crew.specs.Polls.{HasAccepted}
use Rattle.plinq_crew.specs.Working.{HasClosed, HasNumbersFrom, IsReceiver}
use Rattle.plinq_crew.specs.inner.Closing.{wants_close, is_closed, StaysClosed}
use Rattle.plinq_crew.specs.inner.Teams.{IsTeam}

module _ {S T M : Type 0} {source : Ghosts S T} where
  -- it has a partition of that source, and the pass of that stream that receives
  pub record IsCoordinator {C : Type 0} (chunked : Chunked S T source) (stream : Stream (ChunkResult M) C) (c : Coordinator S M T source) : Type 0 where
    pub of : IsPartitionOf chunked c.partition
    pub pass : IsPassOf stream c.stream
    pub receiver : IsReceiver (knowledge_of c.stream)

  -- while it accepts, the source that is shared stays the same, and the numbers that are left, and who was started
  pub record StaysSame (c c' : Coordinator S M T source) : Type 0 where
    pub origin : (holding_of c'.partition).origin ≡ (holding_of c.partition).origin
    pub numbers : (knowledge_of c'.stream).numbers ≡ (knowledge_of c.stream).numbers
    pub worker_count : c'.worker_count ≡ c.worker_count

  -- The source is closed once at most, by a close of the coordinator's own, and not where that was done before. Where all is over
  -- it was closed by then, or some fault stands noted. What comes from then on is dropped, and what was noted stays noted
  pub record ClosesInTime (is_over : Bool) (before : Closing) (c : Coordinator S M T source) (after : Closing) (c' : Coordinator S M T source) : Type 0 where
    pub once : is_closed before ≡ true → after ≡ before
    pub unclosed : is_closed after ≡ is_closed before → holding_of c'.partition ≡ holding_of c.partition
    pub closed : is_closed before ≡ false → is_closed after ≡ true → IsStopped (holding_of c.partition) (holding_of c'.partition)
    pub wanted : is_over ≡ true → is_closed before ≡ false → wants_close after ≡ true
    pub over : is_over ≡ true → is_closed after ≡ false → has_worker_fault c'.worker_faults ≡ true
    pub drops : wants_close before ≡ true → wants_close after ≡ true
    pub kept : StaysNoted c.worker_faults c'.worker_faults

  -- Where a poll has closed the source, nothing changes. Else it is closed by one close of the coordinator's own, unless some fault
  -- stands noted. What was noted stays noted, and the source's origin, what the pass knows and who was started are the same
  pub record ClosesAtLast (closing : Closing) (c c' : Coordinator S M T source) : Type 0 where
    pub same : StaysSame c c'
    pub stream : c'.stream ≡ c.stream
    pub kept : StaysNoted c.worker_faults c'.worker_faults
    pub once : is_closed closing ≡ true → c' ≡ c
    pub stopped : is_closed closing ≡ false → has_worker_fault c'.worker_faults ≡ false → IsStopped (holding_of c.partition) (holding_of c'.partition)
    pub closed : (is_closed closing ≡ true → HasClosed (holding_of c.partition).share) → has_worker_fault c'.worker_faults ≡ false
        → HasClosed (holding_of c'.partition).share

  -- it can start those workers that are wanted: it has what each is to be given
  pub record CanStart {L J P : Type 0} (meaning : L → Meaning T) (makes : P → ChunkResult T → ChunkResult M → Type 0)
      (MaySend : ChunkResult M → Type 0) (stops_at : ℕ → Bool) (crew : Crew L S J P T T M source)
      (c : Coordinator S M T source) (t : Team S M T source) : Type 0 where
    pub pass : IsPassOf crew.stream.now c.stream
    pub receiver : IsReceiver (knowledge_of c.stream)
    pub numbers : c.worker_count.started ≡ c.worker_count.wanted → HasNumbersFrom (length t.handles.items) (knowledge_of c.stream)
    pub equipped : IsEquipped meaning (makes crew.task.now) MaySend stops_at crew.plan.now crew.chunked.now crew.cut.now c.partition t.cut
    pub team : IsTeam crew.chunked.now crew.stream.now crew.workers c.worker_count t
    pub workers : (1 ≤ crew.workers) × (crew.workers ≤ 64)

-- what was accepted of all that was received, is so of what was received by then
abbrev pub AcceptsOn : {X M : Type 0} → (X → ChunkResult M → X → Type 0) → (ChunkResult M → Type 0)
    → List (Sent (ChunkResult M)) → Bool → X → List (Sent (ChunkResult M)) → Bool → X → Type 0
AcceptsOn accepts IsPart received wants_close x received' wants_close' x' =
    (before : _) (start : _) → HasAccepted (AcceptsEach accepts IsPart) before start received wants_close x
    → HasAccepted (AcceptsEach accepts IsPart) before start received' wants_close' x'

module _ {S T M X : Type 0} {source : Ghosts S T} (is_ready : X → Type 0) (accepts : X → ChunkResult M → X → Type 0) (IsPart : ChunkResult M → Type 0) where
  -- The consumer has accepted what came since, as far as it was to, and can accept more. Where the source is closed, the
  -- coordinator's own record says so. Its origin, the numbers that are left and who was started are the same
  pub record AcceptsMore (c : Coordinator S M T source) (before : Closing) (x : X) (c' : Coordinator S M T source) (after : Closing) (x' : X) : Type 0 where
    pub same : StaysSame c c'
    pub ready : is_ready x'
    pub closed : StaysClosed before (holding_of c.partition).share after (holding_of c'.partition).share
    pub accepted : AcceptsOn accepts IsPart (knowledge_of c.stream).received (wants_close before) x (knowledge_of c'.stream).received (wants_close after) x'

-- The pass, which is still one of the stream, has received all that was sent, and it was accepted where what comes isn't dropped.
-- What was sent and the numbers that are left are the same
pub record AcceptsRest {M C X : Type 0} (accepts : X → ChunkResult M → X → Type 0) (IsPart : ChunkResult M → Type 0) (stream : Stream (ChunkResult M) C)
    (closing : Closing) (p : StreamPass (ChunkResult M)) (x : X) (p' : StreamPass (ChunkResult M)) (x' : X) : Type 0 where
  pub of : IsPassOf stream p'
  pub all : HasReceivedAll (knowledge_of p')
  pub sent : (knowledge_of p').sent ≡ (knowledge_of p).sent
  pub numbers : (knowledge_of p').numbers ≡ (knowledge_of p).numbers
  pub accepted : AcceptsOn accepts IsPart (knowledge_of p).received (wants_close closing) x (knowledge_of p').received (wants_close closing) x'
