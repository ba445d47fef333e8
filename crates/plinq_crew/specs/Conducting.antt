-- What the caller's thread has accepted of what workers send, and what it leaves once they were joined.
use Rattle.std.specs.Prelude.{◌≡◌, ◌≤◌, ◌+◌, [], drop, length, Bool, false, Result, Ok, Err, All}
use Rattle.plinq_source.specs.declared.source.Source.{Ghosts}
use Rattle.plinq_ops.specs.declared.results.ChunkResult.{ChunkResult}
use Rattle.plinq_partition.specs.GivenBack.{common_origin}
use Rattle.plinq_partition.specs.Partitions.{IsPartitionOf, all_shares, holding_of}
use Rattle.plinq_stream.specs.declared.sent.Sent.{Sent}
use Rattle.plinq_stream.specs.declared.stream_pass.StreamPass.{StreamPass}
use Rattle.plinq_stream.specs.Passes.{IsPassOf, knowledge_of}
use Rattle.plinq_stream.specs.Streams.{HasReceivedAll}
use Rattle.plinq_crew.specs.declared.worker.Crew.{Crew}
use Rattle.plinq_crew.specs.declared.worker.WorkerContext.{WorkerContext}
use Rattle.plinq_crew.specs.Polls.{HasAccepted}
use Rattle.plinq_crew.specs.Noted.{has_worker_fault}
use Rattle.plinq_crew.specs.Working.{HasClosed, IsOfOne, IsAnsweredBy}
use Rattle.plinq_crew.specs.declared.conducting.Returned.{Returned}
use Rattle.plinq_source.specs.declared.memory.OutOfMemory.{OutOfMemory}

-- what was sent is such a part, and was accepted so
abbrev pub AcceptsEach : {X M : Type 0} → (X → ChunkResult M → X → Type 0) → (ChunkResult M → Type 0) → X → Sent (ChunkResult M) → X → Type 0
AcceptsEach accepts IsPart x sent x' = IsPart sent.item × accepts x sent.item x'

-- such a part, and of the chunk of one of the partitions' records where all workers that were wanted were started
abbrev pub IsOfCrew : {S T M : Type 0} {source : Ghosts S T} → Returned S T source → (ChunkResult M → Type 0) → ChunkResult M → Type 0
IsOfCrew back IsPart c = IsPart c × (back.worker_count.started ≡ back.worker_count.wanted → IsOfOne (all_shares back.partitions.items) c)

module _ {L S J P T M X : Type 0} {source : Ghosts S T} (accepts : X → ChunkResult M → X → Type 0)
    (IsPart : ChunkResult M → Type 0) (crew : Crew L S J P T T M source) (context : WorkerContext S M T source) (x x' : X) where
  -- All workers were joined. Their partitions have shared the source, and a pass of the stream has received all that was sent, as
  -- the partitions' records say, and nothing else where all that were wanted were started. It was accepted one part after another,
  -- but for some of the last ones. Without a worker's fault the source was closed.
  pub record HasReturned (back : Returned S T source) : Type 0 where
    pub some : 1 ≤ length back.partitions.items
    pub of : All (IsPartitionOf crew.chunked.now) back.partitions.items
    pub origin : common_origin back.partitions.items ≡ (holding_of context.partition).origin
    pub started : length back.partitions.items ≡ back.worker_count.started + 1
    pub wanted : (1 ≤ back.worker_count.wanted) × (back.worker_count.wanted ≤ crew.workers)
    pub pass : StreamPass (ChunkResult M)
    pub of_stream : IsPassOf crew.stream.now pass
    pub all : HasReceivedAll (knowledge_of pass)
    pub answered : All (IsAnsweredBy 0 (knowledge_of pass) back.worker_faults) (drop 1 back.partitions.items)
    pub each : All (λ s. back.worker_count.started ≡ back.worker_count.wanted → IsOfOne (all_shares back.partitions.items) s.item) (knowledge_of pass).received
    pub closed : has_worker_fault back.worker_faults ≡ false → HasClosed (all_shares back.partitions.items)
    pub wants_close : Bool
    pub accepted : HasAccepted (AcceptsEach accepts IsPart) [] x (knowledge_of pass).received wants_close x'

  -- or there was no room, and nothing was accepted
  abbrev pub Conducts : Result (Returned S T source) OutOfMemory → Type 0
  Conducts (Ok back) = HasReturned back
  Conducts (Err fault) = x' ≡ x
