use Rattle.std.proofs.Common.{◌/◌, ◌*◌, ◌^◌, ◌∙◌, min, ap}
use Rattle.plinq_enumerator.specs.Growing.{size_at}
use Rattle.plinq_enumerator.proofs.Sizes.{doublings-capped}
use Rattle.plinq_enumerator.proofs.growth.Growth.size.Goals as goal

pub returns-clause-size : goal.returns-clause-size
returns-clause-size c =
    let fields = c.self.inside in
    let grown = c.self.invariant in
    c.min.ensures
    ∙ ap (λ p. min fields.max (fields.first * p)) (c.pow.ensures ∙ ap (λ d. 2 ^ d) c.min-doublings.ensures)
    ∙ doublings-capped fields.first fields.max (c.args.i / fields.repeat) grown.some_first grown.max_within
    ∙ ap (λ r. size_at r c.args.i) c.self.view_is
