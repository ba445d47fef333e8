-- What an aggregator makes of the query's answer is what it makes of what the steps do.
use Rattle.std.proofs.Common.{subst, sym, refl}
use Rattle.plinq_aggregate.specs.Folding.{aggregate_value}
use Rattle.plinq_ops.specs.Sequential.{answer_of}
use Rattle.plinq_collect.proofs.Gathered.{tells}
use Rattle.plinq_closures.specs.Asked.{Tells}
use Rattle.plinq_closures.proofs.Asked.{tells-answer}
use Rattle.plinq_closures.proofs.chain.Chain.aggregate.Goals as goal

pub returns-in-Ok-clause-answer : goal.returns-in-Ok-clause-answer
returns-in-Ok-clause-answer g c ops does =
    let q = c.in-Ok.query in
    let t = g.Src.Source.whole c.args.source in
    let fold = g.A.GrowingAggregator.folding c.args.aggregator.now in
    subst (λ r. Tells c.args.workers (aggregate_value fold) (answer_of (λ f. f) ops t) r) (sym c.chain_answer.ensures)
    (tells-answer c.args.workers (aggregate_value fold) _ q.ordered c.in-Ok.ensures.ordered.0 q.ops ops (c.in-Ok.ensures.ops ops does) t c.aggregate.result
    (tells fold (aggregate_value fold) _ c.aggregate.result (λ xs. refl) c.aggregate.ensures.value))
