use Rattle.std.proofs.Common.{◌≡◌, length, ◌-◌, None}
use Rattle.plinq_ops.specs.{Pipeline.stages, Sequential.first_items}
use Rattle.plinq_run.proofs.Pieces.{HasFolded}
use Rattle.plinq_run.proofs.sequential_fold.fold_all.Given as goal

-- the items given so far were fed and left the run open, and what came out is folded but for the last piece
abbrev pub invariant-loop-piece : goal.invariant-loop-piece
invariant-loop-piece g l =
    (g.S.Source.whole l.source ≡ g.S.Source.whole l.fn.source)
    × HasFolded (g.A.GrowingAggregator.folding l.aggregator) (stages g.L.Lambda.meaning l.fn.pipeline)
    (first_items (g.S.Source.given l.source) (g.S.Source.whole l.fn.source))
    l.acc l.piece.items (stages g.L.Lambda.meaning l.pipeline) None

abbrev pub decreases-loop-piece : goal.decreases-loop-piece
decreases-loop-piece g l = length (g.S.Source.whole l.source).items - g.S.Source.given l.source
