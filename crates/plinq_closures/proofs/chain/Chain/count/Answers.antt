-- How many items the query of the steps answers is how many they leave.
use Rattle.std.proofs.Common.{subst, sym}
use Rattle.plinq_ops.specs.Sequential.{answer_of}
use Rattle.plinq_collect.specs.ItemFoldings.{wrapped_count}
use Rattle.plinq_closures.specs.Asked.{Tells}
use Rattle.plinq_closures.proofs.Asked.{tells-answer}
use Rattle.plinq_closures.proofs.chain.Chain.count.Goals as goal

pub returns-in-Ok-clause-answer : goal.returns-in-Ok-clause-answer
returns-in-Ok-clause-answer g c ops does =
    let q = c.in-Ok.query in
    let is = c.in-Ok.ensures in
    let t = g.Src.Source.whole c.args.source in
    subst (λ r. Tells c.args.workers wrapped_count (answer_of (λ f. f) ops t) r) (sym c.chain_answer.ensures)
    (tells-answer c.args.workers wrapped_count _ q.ordered is.ordered.0 q.ops ops (is.ops ops does) t c.count.result c.count.ensures)
