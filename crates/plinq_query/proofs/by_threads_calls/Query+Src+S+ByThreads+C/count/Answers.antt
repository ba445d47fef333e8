-- A source has few items, so the count isn't cut.
use Rattle.plinq_query.proofs.Counting.{count-told}
use Rattle.plinq_query.proofs.by_threads_calls.Query+Src+S+ByThreads+C.count.Goals as goal

pub returns-clause-value : goal.returns-clause-value
returns-clause-value g c f makes =
    let t = g.Src.Source.whole c.args.self.source in
    count-told f _ _ t.items c.has_few.ensures c.aggregate.result (c.aggregate.ensures.value f makes)
