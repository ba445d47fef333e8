-- Workers that were started.
use Rattle.std.specs.Prelude.{◌≡◌, ℕ, ◌+◌, List, [], ◌∷◌, ⊤}
use Rattle.std.specs.declared.thread.PromisedHandle.{PromisedHandle}
use Rattle.plinq_source.specs.declared.source.Source.{Ghosts}
use Rattle.plinq_ops.specs.declared.results.ChunkResult.{ChunkResult}
use Rattle.plinq_partition.specs.declared.chunked.Chunked.{Chunked}
use Rattle.plinq_stream.specs.declared.stream.Stream.{Stream}
use Rattle.plinq_stream.specs.Passes.{IsPassOf}
use Rattle.plinq_crew.specs.declared.handle.WorkerPromise.{WorkerPromise}
use Rattle.plinq_crew.specs.declared.worker.Worked.{Worked}

module _ {S T M : Type 0} {source : Ghosts S T} where
  -- the worker brings back a partition of that source, and a pass of that stream
  abbrev pub IsHandleOf : {C : Type 0} → Chunked S T source → Stream (ChunkResult M) C
      → PromisedHandle (Worked S M T source) (WorkerPromise S M T source) → Type 0
  IsHandleOf chunked stream handle = (handle.promise.chunked.value ≡ chunked) × IsPassOf stream handle.promise.given.value

  -- workers have the numbers from this one on
  abbrev pub AreNumbered : ℕ → List (PromisedHandle (Worked S M T source) (WorkerPromise S M T source)) → Type 0
  AreNumbered number [] = ⊤
  AreNumbered number (handle ∷ handles) = (handle.promise.number ≡ number) × AreNumbered (number + 1) handles
