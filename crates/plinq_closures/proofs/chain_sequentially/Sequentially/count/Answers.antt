-- How many items the query of the steps answers is how many they leave.
use Rattle.std.specs.Prelude.{true}
use Rattle.std.proofs.Common.{subst, sym, refl}
use Rattle.plinq_ops.specs.Sequential.{answer_of}
use Rattle.plinq_collect.specs.ItemFoldings.{wrapped_count}
use Rattle.plinq_closures.specs.Asked.{LacksRoomAlone, Tells}
use Rattle.plinq_closures.proofs.Asked.{lacks-answer, tells-answer}
use Rattle.plinq_closures.proofs.chain_sequentially.Sequentially.count.Goals as goal

pub returns-in-Ok-clause-value : goal.returns-in-Ok-clause-value
returns-in-Ok-clause-value g c ops does =
    let t = g.Src.Source.whole c.args.source in
    subst (λ r. Tells c.args.workers wrapped_count (answer_of (λ f. f) ops t) r) (sym c.chain_answer.ensures)
    (tells-answer c.args.workers wrapped_count _ true refl c.in-Ok.query.ops ops (c.in-Ok.ensures.ops ops does) t c.count.result c.count.ensures.value)

pub returns-in-Ok-clause-memory : goal.returns-in-Ok-clause-memory
returns-in-Ok-clause-memory g c = subst LacksRoomAlone (sym c.chain_answer.ensures) (lacks-answer c.count.result c.count.ensures.memory)
