-- The closure is called with what the steps do.
use Rattle.plinq_closures.proofs.Asked.{called-answer}
use Rattle.plinq_closures.proofs.chain.Chain.for_each.Goals as goal

pub returns-in-Ok-clause-answer : goal.returns-in-Ok-clause-answer
returns-in-Ok-clause-answer g c ops does =
    let q = c.in-Ok.query in
    let is = c.in-Ok.ensures in
    called-answer _ _ q.ordered is.ordered.0 q.merge is.ordered.1 q.ops ops (is.ops ops does)
    (g.Src.Source.whole c.args.source) _ c.for_each.result c.chain_outcome.result _
    c.chain_outcome.ensures c.for_each.ensures
