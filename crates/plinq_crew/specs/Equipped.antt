-- What a worker is started with.
use Rattle.std.specs.Prelude.{◌≡◌, ◌≤◌, ◌^◌, ℕ, Bool, length}
use Rattle.plinq_source.specs.declared.source.Source.{Ghosts}
use Rattle.plinq_lambda.specs.Meaning.{Meaning}
use Rattle.plinq_ops.specs.declared.plan.Plan.{Plan}
use Rattle.plinq_ops.specs.declared.results.ChunkResult.{ChunkResult}
use Rattle.plinq_cut.specs.declared.cut_pass.CutPass.{CutPass}
use Rattle.plinq_cut.specs.declared.cut_word.CutWord.{CutWord}
use Rattle.plinq_cut.specs.Passes.{IsPassOf}
use Rattle.plinq_partition.specs.declared.chunked.Chunked.{Chunked}
use Rattle.plinq_partition.specs.declared.partition.Partition.{Partition}
use Rattle.plinq_partition.specs.Partitions.{IsPartitionOf, holding_of}
use Rattle.plinq_cut.specs.OfPlan.{AreStopKeys}
use Rattle.plinq_stream.specs.Passes.{IsPassOf as IsStreamPassOf, knowledge_of}
use Rattle.plinq_crew.specs.Plans.{IsUndecided}
use Rattle.plinq_crew.specs.declared.worker.Crew.{Crew}
use Rattle.plinq_crew.specs.declared.worker.WorkerContext.{WorkerContext}
use Rattle.plinq_crew.specs.Results.{IsPart}
use Rattle.plinq_crew.specs.Working.{receiver_from}

-- a partition of a source and a pass of a cut of a plan over that source; what is made of its results is what may be sent
pub record IsEquipped {L S T M E : Type 0} {source : Ghosts S T} (meaning : L → Meaning T)
    (makes : ChunkResult T → ChunkResult M → Type 0) (MaySend : ChunkResult M → Type 0) (stops_at : ℕ → Bool) (plan : Plan L)
    (chunked : Chunked S T source) (cut : CutWord E) (partition : Partition S T source) (pass : CutPass) : Type 0 where
  pub of : IsPartitionOf chunked partition
  pub few : length (holding_of partition).origin.items ≤ 2 ^ 40
  pub undecided : IsUndecided plan
  pub parts : (c : ChunkResult M) → IsPart meaning makes plan (holding_of partition).origin c → MaySend c
  pub sent : (c : ChunkResult M) → MaySend c → IsPart meaning makes plan (holding_of partition).origin c
  pub sees : IsPassOf cut pass
  pub stop_keys : AreStopKeys meaning plan (holding_of partition).origin stops_at

-- the caller's thread may start a crew's workers: it is equipped, and its pass of the stream is the first one
pub record IsReady {L S J P T M : Type 0} {source : Ghosts S T} (meaning : L → Meaning T)
    (makes : P → ChunkResult T → ChunkResult M → Type 0) (MaySend : ChunkResult M → Type 0) (stops_at : ℕ → Bool)
    (crew : Crew L S J P T T M source) (context : WorkerContext S M T source) : Type 0 where
  pub equipped : IsEquipped meaning (makes crew.task.now) MaySend stops_at crew.plan.now crew.chunked.now crew.cut.now context.partition context.cut
  pub stream_of : IsStreamPassOf crew.stream.now context.stream
  pub knows : knowledge_of context.stream ≡ receiver_from 0
  pub workers : (1 ≤ crew.workers) × (crew.workers ≤ 64)
