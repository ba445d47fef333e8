use Rattle.std.proofs.Common.{rules, ◌≡◌, ◌∙◌, ap, ◌+ℤ◌}
use Rattle.std.proofs.lemmas.Int.{wrapping_add_is}
use Rattle.std.specs.Int.{w128}
use mir.Val.{SFits}
use Rattle.plinq_aggregate.specs.Numbers.{wrapped_number}
use Rattle.plinq_aggregate.proofs.sum.SumAggregator.update.Goals as goal

-- src/sum.rt:27:5
pub returns : goal.returns
returns c =
    let same : c.from.result ≡ c.args.x = search rules in
    let fits : SFits w128 c.from.result = search rules in
    wrapping_add_is w128 c.args.acc c.from.result c.ranges.acc fits ∙ ap (λ x. wrapped_number (c.args.acc +ℤ x)) same
