-- What an aggregator makes of the query's answer is what it makes of what the steps do.
use Rattle.std.specs.Prelude.{true}
use Rattle.std.proofs.Common.{subst, sym, refl}
use Rattle.plinq_aggregate.specs.Folding.{aggregate_value}
use Rattle.plinq_ops.specs.Sequential.{answer_of}
use Rattle.plinq_collect.proofs.Gathered.{tells-one}
use Rattle.plinq_closures.specs.Asked.{LacksRoomAlone, Tells}
use Rattle.plinq_closures.proofs.Asked.{lacks-answer, tells-answer}
use Rattle.plinq_closures.proofs.chain_sequentially.Sequentially.aggregate.Goals as goal

pub returns-in-Ok-clause-value : goal.returns-in-Ok-clause-value
returns-in-Ok-clause-value g c ops does =
    let q = c.in-Ok.query in
    let t = g.Src.Source.whole c.args.source in
    let fold = g.A.Aggregator.folding c.args.aggregator.now in
    subst (λ r. Tells c.args.workers (aggregate_value fold) (answer_of (λ f. f) ops t) r) (sym c.chain_answer.ensures)
    (tells-answer c.args.workers (aggregate_value fold) _ true refl q.ops ops (c.in-Ok.ensures.ops ops does) t c.aggregate.result
    (tells-one fold (aggregate_value fold) _ c.aggregate.result (λ xs. refl) c.aggregate.ensures.value))

pub returns-in-Ok-clause-memory : goal.returns-in-Ok-clause-memory
returns-in-Ok-clause-memory g c = subst LacksRoomAlone (sym c.chain_answer.ensures) (lacks-answer c.aggregate.result c.aggregate.ensures.memory)
