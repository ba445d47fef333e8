-- Workers that are joined.
use Rattle.std.specs.Prelude.{◌≡◌, ◌≤◌, ◌<◌, ◌+◌, ℕ, List, [], drop, length, true, All, vec_capacity}
use Rattle.std.specs.Global.{Vec}
use Rattle.std.specs.declared.thread.PromisedHandle.{PromisedHandle}
use Rattle.plinq_source.specs.declared.source.Source.{Ghosts}
use Rattle.plinq_ops.specs.declared.results.ChunkResult.{ChunkResult}
use Rattle.plinq_partition.specs.declared.partition.Partition.{Partition}
use Rattle.plinq_partition.specs.GivenBack.{common_origin}
use Rattle.plinq_partition.specs.Partitions.{IsPartitionOf, all_shares, holding_of}
use Rattle.plinq_stream.specs.declared.stream_pass.StreamPass.{StreamPass}
use Rattle.plinq_stream.specs.Passes.{IsPassOf, knowledge_of}
use Rattle.plinq_stream.specs.Streams.{has}
use Rattle.plinq_crew.specs.declared.handle.WorkerPromise.{WorkerPromise}
use Rattle.plinq_crew.specs.declared.starting.WorkerFaults.{WorkerFaults}
use Rattle.plinq_crew.specs.declared.worker.Crew.{Crew}
use Rattle.plinq_crew.specs.declared.worker.Worked.{Worked}
use Rattle.plinq_crew.specs.inner.Handles.{IsHandleOf, AreNumbered}
use Rattle.plinq_crew.specs.Noted.{StaysNoted}
use Rattle.plinq_crew.specs.Working.{HasClosed, HasNumbersFrom, IsAnsweredBy, IsOfOne, IsReceiver}

module _ {L S J P T M : Type 0} {source : Ghosts S T} (crew : Crew L S J P T T M source) (first : Partition S T source)
    (p : StreamPass (ChunkResult M)) (workers : List (PromisedHandle (Worked S M T source) (WorkerPromise S M T source))) where
  -- The first partition is of the crew's source, and the pass is the one that receives and has sent nothing. These are the crew's
  -- workers with the numbers from 0 on, and an empty list has room for the first partition and theirs
  pub record MayJoin (free : Vec (Partition S T source)) : Type 0 where
    pub of : IsPartitionOf crew.chunked.now first
    pub pass : IsPassOf crew.stream.now p
    pub receiver : IsReceiver (knowledge_of p)
    pub handles : All (IsHandleOf crew.chunked.now crew.stream.now) workers
    pub numbered : AreNumbered 0 workers
    pub empty : free.items ≡ []
    pub room : length workers < vec_capacity free

  -- those with the numbers from this one on were joined
  pub record HasJoined (faults : WorkerFaults) (least : ℕ) (p' : StreamPass (ChunkResult M)) (faults' : WorkerFaults)
      (partitions : List (Partition S T source)) : Type 0 where
    -- there is one partition more than of them, and all share the first one's source
    pub count : length partitions + least ≡ length workers + 1
    pub of : All (IsPartitionOf crew.chunked.now) partitions
    pub origin : common_origin partitions ≡ (holding_of first).origin
    -- the receiving pass has received nothing meanwhile
    pub pass : IsPassOf crew.stream.now p'
    pub receives : (knowledge_of p').receives ≡ true
    pub received : (knowledge_of p').received ≡ (knowledge_of p).received
    -- what was sent is what the partitions' records say, but for faults, which were noted
    pub answered : All (IsAnsweredBy least (knowledge_of p') faults') (drop 1 partitions)
    pub sent : All (λ s. IsOfOne (all_shares partitions) s.item) (knowledge_of p').sent
    -- where it had all numbers beyond the workers', it has all from this one on
    pub numbers : HasNumbersFrom (length workers) (knowledge_of p) → (n : ℕ) → least ≤ n → n < 64 → has n (knowledge_of p').numbers ≡ true
    -- a source that the first had closed is closed
    pub closed : HasClosed (holding_of first).share → HasClosed (all_shares partitions)
    -- what was noted stays noted
    pub kept : StaysNoted faults faults'
