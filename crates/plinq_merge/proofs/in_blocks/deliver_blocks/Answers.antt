use Rattle.std.proofs.Common.{rules, arith, ◌≡◌, Err, drop, ◌∙◌}
use Rattle.std.proofs.lemmas.List.{length-take}
use Rattle.plinq_ops.proofs.Fed.{undecided-left}
use Rattle.plinq_merge.specs.declared.delivery_fault.DeliveryFault.TheVariants.{Memory}
use Rattle.plinq_merge.proofs.Delivered.{hands-all, sent-on, sent-handed, sent-over, sent-cut, sent-stopped}
use Rattle.plinq_merge.proofs.in_blocks.deliver_blocks.Goals as goal

pub feed_block_from-requires-clause-undecided : goal.feed_block_from-requires-clause-undecided
feed_block_from-requires-clause-undecided g c lives within = undecided-left _ _ _ _ _ c.loop-block.invariant.sent.fed

-- no room for a block, or for what it gives
pub returns-in_err-ending-clause-delivers : goal.returns-in_err-ending-clause-delivers
returns-in_err-ending-clause-delivers g c =
    let is : c.from_residual.result ≡ Err Memory = search rules in sent-stopped _ is c.loop-block.invariant.sent

-- a block that decides the answer
pub returns-in-Some-clause-delivers : goal.returns-in-Some-clause-delivers
returns-in-Some-clause-delivers g c =
    let before = c.loop-block.invariant in
    let next = rw (c.in-Some.is, before.whole) at c.in_ok-ending.ensures.fed in
    let few = length-take c.args.most (drop (g.S.Source.given c.loop-block.source) (g.S.Source.whole c.loop-block.source).items) in
    sent-over before.sent (omega (arith, c.in_ok-ending.ensures.asked, few)) next c.deliver_rest.ensures.ending
    (rw before.size at c.deliver_rest.ensures.delivered)

-- a block that leaves the answer open
pub loop-block-preserved : goal.loop-block-preserved
loop-block-preserved g c =
    let before = c.loop-block.invariant in
    let next = rw (c.in_default.is, before.whole) at c.in_ok-ending.ensures.fed in
    record {
      whole = c.feed_block_from.ensures.whole ∙ before.whole;
      size = c.deliver_block.ensures.fills.size ∙ before.size;
      room = search rules;
      empty = search rules;
      sent = sent-handed (hands-all (rw before.size at c.in_ok-deliver_block.ensures.fills.filled)) (sent-on before.sent next);
    }

-- a batch that couldn't be delivered
pub returns-in_err-deliver_block-clause-delivers : goal.returns-in_err-deliver_block-clause-delivers
returns-in_err-deliver_block-clause-delivers g c =
    let before = c.loop-block.invariant in
    let next = rw (c.in_default.is, before.whole) at c.in_ok-ending.ensures.fed in
    let is : c.from_residual-in_err-deliver_block.result ≡ Err c.in_err-deliver_block.field-0.0 = search rules in
    sent-cut _ is (hands-all (rw before.size at c.in_err-deliver_block.ensures.fills.filled)) (sent-on before.sent next)
