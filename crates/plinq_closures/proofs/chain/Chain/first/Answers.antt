-- What the query of the steps answers first is what they do.
use Rattle.std.specs.Prelude.{pos, [], ◌∷◌, ◌++◌}
use Rattle.std.proofs.Common.{subst, sym}
use Rattle.plinq_ops.specs.declared.op.Op.TheVariants.{Take}
use Rattle.plinq_ops.specs.Sequential.{answer_of}
use Rattle.plinq_collect.specs.ItemFoldings.{first_of}
use Rattle.plinq_closures.specs.Asked.{Tells}
use Rattle.plinq_closures.proofs.Asked.{tells-first}
use Rattle.plinq_closures.proofs.chain.Chain.first.Goals as goal

pub returns-in-Ok-clause-answer : goal.returns-in-Ok-clause-answer
returns-in-Ok-clause-answer g c ops does =
    let q = c.in-Ok.query in
    let is = c.in-Ok.ensures in
    let t = g.Src.Source.whole c.args.source in
    subst (λ r. Tells c.args.workers first_of (answer_of (λ f. f) (ops ++ Take (pos 1) ∷ []) t) r) (sym c.chain_answer.ensures)
    (tells-first c.args.workers _ q.ordered is.ordered.0 q.ops ops (is.ops ops does) t c.first.result c.first.ensures)
