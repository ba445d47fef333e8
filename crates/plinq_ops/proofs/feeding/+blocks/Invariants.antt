use Rattle.std.proofs.Common.{◌+◌, ◌-◌, ◌*◌, length, take, [], ◌∷◌, None}
use Rattle.plinq_source.specs.Trace.{open_trace}
use Rattle.plinq_source.proofs.Followed.{trace_of}
use Rattle.plinq_ops.specs.declared.op.Op.TheVariants.{SelectMany}
use Rattle.plinq_ops.specs.Operator.{stage_of}
use Rattle.plinq_ops.specs.inner.FeedingFrom.{FeedsStages}
use Rattle.plinq_ops.proofs.Through.{GoesThrough}
use Rattle.plinq_ops.proofs.feeding.+blocks.Given as goal

abbrev pub decreases-feed_block : goal.decreases-feed_block
decreases-feed_block g l = 4 * (length l.ops.now - l.from)

-- each calls the one before it over the same operators
abbrev pub decreases-feed_rest : goal.decreases-feed_rest
decreases-feed_rest g l = 4 * (length l.ops.now - l.from) + 1

abbrev pub decreases-feed_expansion : goal.decreases-feed_expansion
decreases-feed_expansion g l = 4 * (length l.ops.now - l.from) + 2

abbrev pub decreases-feed_expansions : goal.decreases-feed_expansions
decreases-feed_expansions g l = 4 * (length l.ops.now - l.from) + 3

abbrev pub invariant-feed_expansions-loop-item : goal.invariant-feed_expansions-loop-item
invariant-feed_expansions-loop-item g l =
    FeedsStages g.L.Lambda.meaning (stage_of g.L.Lambda.meaning (SelectMany l.f) ∷ []) l.from l.fn.ops l.ops
    (open_trace (take l.item-index l.item-items)) [] l.block.items None

abbrev pub invariant-feed_block-loop-at : goal.invariant-feed_block-loop-at
invariant-feed_block-loop-at g l =
    GoesThrough g.L.Lambda.meaning l.fn.from l.fn.ops (trace_of l.fn.block.items l.fn.ending) l.at l.ops (trace_of l.block.items l.ending)
