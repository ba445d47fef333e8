-- The workers that were started so far.
use Rattle.std.specs.Prelude.{◌≡◌, ◌≤◌, ℕ, length, vec_capacity, All}
use Rattle.plinq_source.specs.declared.source.Source.{Ghosts}
use Rattle.plinq_ops.specs.declared.results.ChunkResult.{ChunkResult}
use Rattle.plinq_partition.specs.declared.chunked.Chunked.{Chunked}
use Rattle.plinq_stream.specs.declared.stream.Stream.{Stream}
use Rattle.plinq_crew.specs.declared.starting.Team.{Team}
use Rattle.plinq_crew.specs.declared.worker_count.WorkerCount.{WorkerCount}
use Rattle.plinq_crew.specs.inner.Handles.{IsHandleOf, AreNumbered}

-- they were counted, are no more than were wanted, have the numbers from 0 on, and bring back what belongs to that source and that
-- stream; no more than so many are wanted, for whom there is room
pub record IsTeam {S T M C : Type 0} {source : Ghosts S T} (chunked : Chunked S T source) (stream : Stream (ChunkResult M) C)
    (workers : ℕ) (count : WorkerCount) (team : Team S M T source) : Type 0 where
  pub started : count.started ≡ length team.handles.items
  pub asked : count.started ≤ count.wanted
  pub within : count.wanted ≤ workers
  pub room : workers ≤ vec_capacity team.handles
  pub handles : All (IsHandleOf chunked stream) team.handles.items
  pub numbered : AreNumbered 0 team.handles.items
