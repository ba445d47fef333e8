use Rattle.std.proofs.Common.{◌+◌, ◌<◌, ◌≤◌, ◌^◌, length}
use Rattle.plinq_ops.specs.{Chunk.chunk_answer, Cut.most_items}
use Rattle.plinq_run.proofs.Pieces.{HasFoldedTo}
use Rattle.plinq_run.proofs.tasks.FoldChunksTask.work.Given as goal

-- what the pieces so far gave is folded, and they left the run open
abbrev pub invariant-loop-rest : goal.invariant-loop-rest
invariant-loop-rest g l =
    record {
      folded : HasFoldedTo g.L.Lambda.meaning l.plan.worker.now l.cut (g.A.GrowingAggregator.folding l.self.aggregator.now)
          (chunk_answer g.L.Lambda.meaning l.plan.worker.now l.cut l.chunk.first l.chunk.items.items) l.first l.rest l.acc l.count;
      few : l.count < 2 ^ 63;
      within : l.first + length l.rest ≤ most_items;
    }

abbrev pub decreases-loop-rest : goal.decreases-loop-rest
decreases-loop-rest g l = length l.rest
