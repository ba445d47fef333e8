-- What a worker needs to take its next chunk, and what it has to send then.
use Rattle.std.specs.Prelude.{◌≡◌, ◌≤◌, ◌^◌, ℕ, Bool, true, false, length}
use Rattle.std.specs.List.{list_any}
use Rattle.plinq_source.specs.declared.source.Source.{Ghosts}
use Rattle.plinq_lambda.specs.Meaning.{Meaning}
use Rattle.plinq_ops.specs.declared.plan.Plan.{Plan}
use Rattle.plinq_ops.specs.declared.results.ChunkResult.{ChunkResult}
use Rattle.plinq_ops.specs.ByKey.{is_by_key}
use Rattle.plinq_ops.specs.Feeding.{is_empty_take}
use Rattle.plinq_cut.specs.declared.cut_pass.CutPass.{CutPass}
use Rattle.plinq_cut.specs.OfPlan.{AreStopKeys}
use Rattle.plinq_cut.specs.Passes.{IsPassOf}
use Rattle.plinq_partition.specs.declared.partition.Partition.{Partition}
use Rattle.plinq_partition.specs.Partitions.{Holding, IsPartitionOf, holding_of}
use Rattle.plinq_crew.specs.declared.worker.Crew.{Crew}
use Rattle.plinq_crew.specs.Results.{IsPart}
use Rattle.plinq_crew.specs.Working.{HasTakenChunk}

-- It has a partition of the source, which has at most 2^40 items, and a pass of the cut that the crew shares. The cut stops where
-- the plan does over this source. The plan's part for workers goes by the items' keys and has no Take of at most 0
pub record MayTakeNext {L S J P T M : Type 0} {source : Ghosts S T} (meaning : L → Meaning T) (stops_at : ℕ → Bool)
    (crew : Crew L S J P T T M source) (partition : Partition S T source) (pass : CutPass) : Type 0 where
  pub of : IsPartitionOf crew.chunked.now partition
  pub cut : IsPassOf crew.cut.now pass
  pub stop_keys : AreStopKeys meaning crew.plan.now (holding_of partition).origin stops_at
  pub keyed : is_by_key crew.plan.now.worker.now ≡ true
  pub some : list_any is_empty_take crew.plan.now.worker.now ≡ false
  pub few : length (holding_of partition).origin.items ≤ 2 ^ 40

-- the chunk of one more record was taken, and this was made of its result
pub record IsNextPart {L T M : Type 0} (meaning : L → Meaning T) (makes : ChunkResult T → ChunkResult M → Type 0) (plan : Plan L)
    (before after : Holding T) (part : ChunkResult M) : Type 0 where
  pub is : IsPart meaning makes plan before.origin part
  pub taken : HasTakenChunk before.share after.share part
