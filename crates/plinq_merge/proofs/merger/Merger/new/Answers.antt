use Rattle.std.proofs.Common.{rules, ◌≡◌, [], true, false, refl, sym, subst}
use Rattle.plinq_ops.specs.{Batches.batch_size, Operator.stages_of}
use Rattle.plinq_merge.specs.{Delivering.line_of, Delivering.can_deliver, Offering.StandsFor}
use Rattle.plinq_merge.proofs.Offers.{begun-rests}
use Rattle.plinq_merge.proofs.merger.Merger.new.Goals as goal

pub returns-clause-nothing : goal.returns-clause-nothing
returns-clause-nothing g c =
    let m = g.L.Lambda.meaning in
    let d = c.in_ok-taker.taker in
    let ops = c.args.plan.now.after.now in
    let begun : line_of m d ≡ record { after = stages_of m ops; now = stages_of m ops; held = []; size = batch_size c.args.option } = search rules in
    let can : can_deliver m d ≡ true = search rules in
    let made = c.new-2.ensures in
    let w = c.new-2.result.work in
    subst (λ x. StandsFor m false w x []) (sym made.still) (begun-rests m false w d ops (batch_size c.args.option) refl made.nothing made.taker can begun)
