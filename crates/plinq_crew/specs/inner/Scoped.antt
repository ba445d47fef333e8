-- What a scope of threads and each thread take along, and what comes of it.
use Rattle.std.specs.Prelude.{ℕ, Bool, Result}
use Rattle.plinq_source.specs.declared.source.Source.{Ghosts}
use Rattle.plinq_lambda.specs.Meaning.{Meaning}
use Rattle.plinq_ops.specs.declared.results.ChunkResult.{ChunkResult}
use Rattle.plinq_crew.specs.Equipped.{IsEquipped, IsReady}
use Rattle.plinq_crew.specs.Working.{IsBack, IsNewcomer}
use Rattle.plinq_crew.specs.declared.worker.Worked.{Worked}
use Rattle.plinq_crew.specs.declared.worker.Equipment.{Equipment}
use Rattle.plinq_crew.specs.declared.conducting.Returned.{Returned}
use Rattle.plinq_source.specs.declared.memory.OutOfMemory.{OutOfMemory}
use Rattle.plinq_crew.specs.Conducting.{Conducts}

module _ {L S J P X R T M : Type 0} {source : Ghosts S T} where
  pub record MayStartScope (meaning : L → Meaning T) (makes : P → ChunkResult T → ChunkResult M → Type 0)
      (MaySend : ChunkResult M → Type 0) (stops_at : ℕ → Bool) (is_ready : X → Type 0)
      (e : Equipment L S J P R T T M source) (x : X) : Type 0 where
    pub ready : IsReady meaning makes MaySend stops_at e.crew.now e.context
    pub consumer : is_ready x

  pub record ScopeReturns (accepts : X → ChunkResult M → X → Type 0) (IsPart : ChunkResult M → Type 0)
      (e : Equipment L S J P R T T M source) (x x' : X) (result : Result (Returned S T source) OutOfMemory) : Type 0 where
    pub conducts : Conducts accepts IsPart e.crew.now e.context x x' result

module _ {L S J P R T M : Type 0} {source : Ghosts S T} where
  pub record MayWork (meaning : L → Meaning T) (makes : P → ChunkResult T → ChunkResult M → Type 0)
      (MaySend : ChunkResult M → Type 0) (stops_at : ℕ → Bool) (e : Equipment L S J P R T T M source) (worker : ℕ) : Type 0 where
    pub new : IsNewcomer e.crew.now.stream.now worker e.context.partition e.context.stream
    pub equipped : IsEquipped meaning (makes e.crew.now.task.now) MaySend stops_at e.crew.now.plan.now
        e.crew.now.chunked.now e.crew.now.cut.now e.context.partition e.context.cut

  pub record WorkReturns (e : Equipment L S J P R T T M source) (worker : ℕ) (worked : Worked S M T source) : Type 0 where
    pub back : IsBack e.crew.now.chunked.now e.context.stream worker worked
