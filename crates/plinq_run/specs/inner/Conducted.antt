-- When a run may be conducted, and what it leaves.
use Rattle.std.specs.Prelude.{◌≡◌, ◌≤◌, ◌+◌, ℕ, Bool, List, drop, length, true, Option, Result, Ok, Err, All}
use Rattle.plinq_source.specs.declared.ending.Ending.{Ending}
use Rattle.plinq_source.specs.declared.source.Source.{Ghosts}
use Rattle.plinq_source.specs.Trace.{Trace}
use Rattle.plinq_lambda.specs.Meaning.{Meaning}
use Rattle.plinq_ops.specs.declared.order.Order.{Order}
use Rattle.plinq_ops.specs.declared.results.ChunkResult.{ChunkResult}
use Rattle.plinq_cut.specs.OfPlan.{AreStopKeys}
use Rattle.plinq_merge.specs.declared.delivery_fault.DeliveryFault.{DeliveryFault}
use Rattle.plinq_partition.specs.declared.chunked.Chunked.{Chunked}
use Rattle.plinq_partition.specs.declared.partition.Partition.{Partition}
use Rattle.plinq_partition.specs.GivenBack.{common_origin}
use Rattle.plinq_partition.specs.Partitions.{IsPartitionOf, all_shares, holding_of}
use Rattle.plinq_stream.specs.declared.stream_pass.StreamPass.{StreamPass}
use Rattle.plinq_stream.specs.Passes.{IsPassOf, knowledge_of}
use Rattle.plinq_stream.specs.Streams.{HasReceivedAll}
use Rattle.plinq_crew.specs.declared.worker.Crew.{Crew}
use Rattle.plinq_crew.specs.declared.worker.WorkerContext.{WorkerContext}
use Rattle.plinq_crew.specs.Results.{IsPart}
use Rattle.plinq_crew.specs.Working.{IsWhollyAnsweredBy}
use Rattle.plinq_run.specs.declared.planning.Conducted.{Conducted}
use Rattle.plinq_run.specs.declared.planning.Ended.{Ended}
use Rattle.plinq_run.specs.declared.run_fault.RunFault.{RunFault}
use Rattle.plinq_run.specs.declared.run_request.RunRequest.{RunRequest}
use Rattle.plinq_run.specs.Handed.{has_close}
use Rattle.plinq_run.specs.inner.Merged.{HasEnded, HasBrokenOff, WereAccepted}
use Rattle.plinq_run.specs.inner.PlanAnswers.{MayRun}

-- a run may be conducted by such a task
pub record MayConduct {Q T L S G M : Type 0} (given : S → ℕ) (whole : S → Trace T) (meaning : L → Meaning T) (makes : ChunkResult T → ChunkResult M → Type 0)
    (MaySend : ChunkResult M → Type 0) (stops_at : ℕ → Bool) (request : RunRequest Q T L S G) : Type 0 where
  -- it may begin
  pub begins : MayRun given request
  -- what the task makes of the source's results may be sent
  pub carries : (c : ChunkResult M) → IsPart meaning makes request.plan.now (whole request.source) c → MaySend c
  -- and nothing else may
  pub carried : (c : ChunkResult M) → MaySend c → IsPart meaning makes request.plan.now (whole request.source) c
  -- and these are the keys at which the plan ends over this source
  pub stop_keys : AreStopKeys meaning request.plan.now (whole request.source) stops_at

-- partitions have shared a source, and one has closed it
pub record HaveShared {S T : Type 0} {source : Ghosts S T} (t : Trace T) (chunked : Chunked S T source)
    (partitions : List (Partition S T source)) : Type 0 where
  pub some : 1 ≤ length partitions
  pub of : All (IsPartitionOf chunked) partitions
  pub origin : common_origin partitions ≡ t
  pub closed : has_close (all_shares partitions) ≡ true

module _ {L S J P T M W O : Type 0} {source : Ghosts S T} (made : W → O → Trace M → Result (Option Ending) DeliveryFault → W → O → Type 0)
    (MaySend : ChunkResult M → Type 0) (crew : Crew L S J P T T M source) (context : WorkerContext S M T source) (a : W) (x : O) where
  -- a crew has run to the end of its answer
  pub record HasAnswered (ended : Ended S W T source) (y : O) : Type 0 where
    -- its partitions have shared the source of the caller's own
    pub shared : HaveShared (holding_of context.partition).origin crew.chunked.now ended.partitions.items
    -- beside that there is one of each worker: of one at least, and of no more than were asked for
    pub started : (2 ≤ length ended.partitions.items) × (length ended.partitions.items ≤ crew.workers + 1)
    -- all that workers sent was received
    pub pass : StreamPass (ChunkResult M)
    pub of_stream : IsPassOf crew.stream.now pass
    pub all : HasReceivedAll (knowledge_of pass)
    -- it is what their records say
    pub answered : All (IsWhollyAnsweredBy (knowledge_of pass)) (drop 1 ended.partitions.items)
    -- it was accepted
    pub accepted : WereAccepted made MaySend crew.plan.now.order a x (knowledge_of pass).received ended.joined y
    -- and the taker has taken what it merges to
    pub taken : HasEnded made MaySend crew.plan.now.order a x ended y

  -- or there is a fault, for which the taker may have broken off
  abbrev pub HasRunCrew : Result (Ended S W T source) RunFault → O → Type 0
  HasRunCrew (Ok ended) y = HasAnswered ended y
  HasRunCrew (Err fault) y = HasBrokenOff made MaySend crew.plan.now.order a x fault y

-- a source was shared and closed, and the taker has taken what its parts merge to; or there is a fault, for which it may have broken off
abbrev pub HasConducted : {S T M W O : Type 0} {source : Ghosts S T} → (W → O → Trace M → Result (Option Ending) DeliveryFault → W → O → Type 0)
    → (ChunkResult M → Type 0) → Order → Trace T → W → O → Result (Conducted S W T source) RunFault → O → Type 0
HasConducted made MaySend order t a x (Ok c) y = HaveShared t c.chunked c.ended.partitions.items × HasEnded made MaySend order a x c.ended y
HasConducted made MaySend order t a x (Err fault) y = HasBrokenOff made MaySend order a x fault y

-- how its answer has ended
abbrev pub answer_ending : {S T W : Type 0} {source : Ghosts S T} → Result (Conducted S W T source) RunFault → Result Ending RunFault
answer_ending (Ok c) = Ok c.ended.joined.ending
answer_ending (Err fault) = Err fault
