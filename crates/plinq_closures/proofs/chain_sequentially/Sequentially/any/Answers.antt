-- There is an item where there is a first.
use Rattle.std.specs.Prelude.{pos, [], ◌∷◌, ◌++◌}
use Rattle.std.proofs.Common.{subst, sym}
use Rattle.plinq_ops.specs.declared.op.Op.TheVariants.{Take}
use Rattle.plinq_ops.specs.Sequential.{answer_of}
use Rattle.plinq_collect.specs.ItemFoldings.{has_item}
use Rattle.plinq_closures.specs.Asked.{LacksRoomAlone, Tells}
use Rattle.plinq_closures.proofs.Asked.{lacks-there, tells-there}
use Rattle.plinq_closures.proofs.chain_sequentially.Sequentially.any.Goals as goal

pub returns-clause-value : goal.returns-clause-value
returns-clause-value g c ops does =
    let u = answer_of (λ f. f) (ops ++ Take (pos 1) ∷ []) (g.Src.Source.whole c.args.source) in
    subst (λ r. Tells c.args.workers has_item u r) (sym c.there.ensures) (tells-there c.args.workers u c.first.result (c.first.ensures.value ops does))

pub returns-clause-memory : goal.returns-clause-memory
returns-clause-memory g c = subst LacksRoomAlone (sym c.there.ensures) (lacks-there c.first.result c.first.ensures.memory)
