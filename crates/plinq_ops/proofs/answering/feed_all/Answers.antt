use Rattle.std.proofs.Common.{◌∙◌, refl}
use Rattle.plinq_ops.proofs.Fed.{fed-none, undecided-left}
use Rattle.plinq_ops.proofs.Answered.{fed-on, fed-over, least-over, feeds-smaller}
use Rattle.plinq_ops.proofs.answering.feed_all.Goals as goal

pub loop-ending-init : goal.loop-ending-init
loop-ending-init g c = (refl, rw c.requires.fresh (fed-none _ _ c.requires.undecided))

pub feed_from-requires-clause-undecided : goal.feed_from-requires-clause-undecided
feed_from-requires-clause-undecided g c lives within = undecided-left _ _ _ _ _ c.loop-ending.invariant.1

-- what decides the answer, and nothing before it did
pub returns-in-Some-clause-fed : goal.returns-in-Some-clause-fed
returns-in-Some-clause-fed g c =
    let before = c.loop-ending.invariant in
    let next = rw (c.in-Some.is, before.0) at c.in_ok-ending.ensures.fed in
    record { fed = fed-over _ _ _ _ _ _ _ _ _ _ before.1 next; least = least-over _ _ _ _ _ _ _ _ _ _ c.feed_from.ensures.one before.1 next }

-- an item that leaves the answer open
pub loop-ending-preserved : goal.loop-ending-preserved
loop-ending-preserved g c =
    let before = c.loop-ending.invariant in
    let next = rw (c.in_default.is, before.0) at c.in_ok-ending.ensures.fed in
    (c.feed_from.ensures.whole ∙ before.0, fed-on _ _ _ _ _ _ _ _ _ before.1 next)

pub loop-ending-smaller : goal.loop-ending-smaller
loop-ending-smaller g c =
    rw c.feed_from.ensures.whole (feeds-smaller _ _ _ _ _ _ _ (rw c.in_default.is at c.in_ok-ending.ensures.fed))
