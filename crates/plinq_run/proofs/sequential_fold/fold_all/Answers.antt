use Rattle.std.proofs.Common.{rules, ◌∙◌, refl}
use Rattle.plinq_ops.proofs.{Fed.undecided-left, Answered.feeds-smaller}
use Rattle.plinq_run.proofs.Pieces.{folded-none, folded-on, folded-full, finished}
use Rattle.plinq_run.proofs.sequential_fold.fold_all.Goals as goal

pub loop-piece-init : goal.loop-piece-init
loop-piece-init g c =
    let f = g.A.GrowingAggregator.folding c.args.aggregator.now in
    (refl, rw (c.requires.fresh, c.seed-acc.ensures, c.new-piece.ensures.items) (folded-none f _ c.requires.undecided))

pub feed_from-requires-clause-undecided : goal.feed_from-requires-clause-undecided
feed_from-requires-clause-undecided g c lives within = undecided-left _ _ _ _ _ c.loop-piece.invariant.1.fed

-- what decides the answer
pub returns-in-Some-clause-folds : goal.returns-in-Some-clause-folds
returns-in-Some-clause-folds g c =
    let f = g.A.GrowingAggregator.folding c.args.aggregator.now in
    let before = c.loop-piece.invariant in
    let next = rw (c.in-Some.is, before.0) at c.in_ok-ending.ensures.fed in
    finished f _ _ _ _ _ _ _ _ _ before.1 _ _ c.feed_from.ensures.one next (search rules)

-- an item that leaves the answer open
pub loop-piece-preserved : goal.loop-piece-preserved
loop-piece-preserved g c =
    let f = g.A.GrowingAggregator.folding c.args.aggregator.now in
    let before = c.loop-piece.invariant in
    let next = rw (c.in_default.is, before.0) at c.in_ok-ending.ensures.fed in
    (c.feed_from.ensures.whole ∙ before.0, folded-full f _ _ _ _ _ _ _ (search rules) (folded-on f _ _ _ _ _ _ _ _ _ before.1 next))

pub loop-piece-smaller : goal.loop-piece-smaller
loop-piece-smaller g c = rw c.feed_from.ensures.whole (feeds-smaller _ _ _ _ _ _ _ (rw c.in_default.is at c.in_ok-ending.ensures.fed))
