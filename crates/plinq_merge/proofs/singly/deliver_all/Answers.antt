use Rattle.std.proofs.Common.{rules, ◌≡◌, Err}
use Rattle.plinq_ops.proofs.{Fed.undecided-left, Answered.feeds-smaller}
use Rattle.plinq_merge.specs.declared.delivery_fault.DeliveryFault.TheVariants.{Memory}
use Rattle.plinq_merge.proofs.Delivered.{sent-on, sent-over, sent-cut, sent-stopped}
use Rattle.plinq_merge.proofs.singly.deliver_all.Goals as goal

pub feed_from-requires-clause-undecided : goal.feed_from-requires-clause-undecided
feed_from-requires-clause-undecided g c lives within = undecided-left _ _ _ _ _ c.loop-made.invariant.sent.fed

-- no room for what an item gives
pub returns-in_err-ending-clause-delivers : goal.returns-in_err-ending-clause-delivers
returns-in_err-ending-clause-delivers g c =
    let is : c.from_residual.result ≡ Err Memory = search rules in sent-stopped _ is c.loop-made.invariant.sent

-- what decides the answer
pub returns-in-Some-clause-delivers : goal.returns-in-Some-clause-delivers
returns-in-Some-clause-delivers g c =
    let before = c.loop-made.invariant in
    let next = rw (c.in-Some.is, before.whole) at c.in_ok-ending.ensures.fed in
    sent-over before.sent c.feed_from.ensures.one next c.deliver_rest.ensures.ending (rw before.size at c.deliver_rest.ensures.delivered)

-- a batch that couldn't be delivered
pub returns-in_err-deliver_ready-clause-delivers : goal.returns-in_err-deliver_ready-clause-delivers
returns-in_err-deliver_ready-clause-delivers g c =
    let before = c.loop-made.invariant in
    let next = rw (c.in_default.is, before.whole) at c.in_ok-ending.ensures.fed in
    let is : c.from_residual-in_err-deliver_ready.result ≡ Err c.in_err-deliver_ready.field-0.0 = search rules in
    sent-cut _ is (rw before.size at c.in_err-deliver_ready.ensures.handed) (sent-on before.sent next)

pub loop-made-smaller : goal.loop-made-smaller
loop-made-smaller g c = rw c.feed_from.ensures.whole (feeds-smaller _ _ _ _ _ _ _ (rw c.in_default.is at c.in_ok-ending.ensures.fed))
