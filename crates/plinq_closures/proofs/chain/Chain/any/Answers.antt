-- There is an item where there is a first.
use Rattle.std.specs.Prelude.{pos, [], ◌∷◌, ◌++◌}
use Rattle.std.proofs.Common.{subst, sym}
use Rattle.plinq_ops.specs.declared.op.Op.TheVariants.{Take}
use Rattle.plinq_ops.specs.Sequential.{answer_of}
use Rattle.plinq_collect.specs.ItemFoldings.{has_item}
use Rattle.plinq_closures.specs.Asked.{Tells}
use Rattle.plinq_closures.proofs.Asked.{tells-there}
use Rattle.plinq_closures.proofs.chain.Chain.any.Goals as goal

pub returns-clause-answer : goal.returns-clause-answer
returns-clause-answer g c ops does =
    let u = answer_of (λ f. f) (ops ++ Take (pos 1) ∷ []) (g.Src.Source.whole c.args.source) in
    subst (λ r. Tells c.args.workers has_item u r) (sym c.there.ensures) (tells-there c.args.workers u c.first.result (c.first.ensures.answer ops does))
