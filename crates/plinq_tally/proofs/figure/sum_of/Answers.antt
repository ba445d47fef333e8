use Rattle.std.proofs.Common.{rules}
use Rattle.std.proofs.lemmas.Int.{wrapping_add_is}
use Rattle.std.specs.Int.{w128}
use mir.Val.{SFits}
use Rattle.plinq_tally.proofs.figure.sum_of.Goals as goal

pub returns : goal.returns
returns c =
    let fits : SFits w128 c.args.b = search rules in
    wrapping_add_is w128 c.args.a c.args.b c.ranges.a fits
