-- What the query of the steps answers at a place is what they do.
use Rattle.std.specs.Prelude.{pos, [], ◌∷◌, ◌++◌, true}
use Rattle.std.proofs.Common.{subst, sym, refl}
use Rattle.plinq_ops.specs.declared.op.Op.TheVariants.{Take, Skip}
use Rattle.plinq_ops.specs.Sequential.{answer_of}
use Rattle.plinq_collect.specs.ItemFoldings.{first_of}
use Rattle.plinq_closures.specs.Asked.{LacksRoomAlone, Tells}
use Rattle.plinq_closures.proofs.Asked.{lacks-answer, tells-placed}
use Rattle.plinq_closures.proofs.chain_sequentially.Sequentially.element_at.Goals as goal

pub returns-in-Ok-clause-value : goal.returns-in-Ok-clause-value
returns-in-Ok-clause-value g c ops does =
    let t = g.Src.Source.whole c.args.source in
    subst (λ r. Tells c.args.workers first_of (answer_of (λ f. f) ((ops ++ Skip (pos c.args.place) ∷ []) ++ Take (pos 1) ∷ []) t) r)
    (sym c.chain_answer.ensures)
    (tells-placed c.args.workers _ true refl c.in-Ok.query.ops ops (c.in-Ok.ensures.ops ops does)
    (pos c.args.place) t c.element_at.result c.element_at.ensures.value)

pub returns-in-Ok-clause-memory : goal.returns-in-Ok-clause-memory
returns-in-Ok-clause-memory g c =
    subst LacksRoomAlone (sym c.chain_answer.ensures) (lacks-answer c.element_at.result c.element_at.ensures.memory)
