-- A source has few items, so the count isn't cut.
use Rattle.plinq_query.proofs.Counting.{count-told}
use Rattle.plinq_query.proofs.on_one_thread.Query+Src+S+OneThread.count.Goals as goal

pub returns : goal.returns
returns g c =
    let t = g.Src.Source.whole c.args.self.source in
    record { value = λ f makes. count-told f _ _ t.items c.has_few.ensures c.aggregate.result (c.aggregate.ensures.value f makes) }
