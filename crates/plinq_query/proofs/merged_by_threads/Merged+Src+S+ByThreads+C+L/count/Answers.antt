-- A source has few items, and no more are left, so the count isn't cut.
use Rattle.std.specs.List.{filter_map}
use Rattle.std.proofs.Common.{arith}
use Rattle.plinq_passing.proofs.Accumulating.{counted}
use Rattle.plinq_query.proofs.Counting.{few-made}
use Rattle.plinq_query.proofs.merged_by_threads.Merged+Src+S+ByThreads+C+L.count.Goals as goal

pub returns-clause-value : goal.returns-clause-value
returns-clause-value g c f makes h d means =
    let t = g.Src.Source.whole c.args.self.query.source in
    let laws = g.met.L.Positional in
    counted _ _ (h (filter_map f t.items))
    (omega (arith, c.has_few.ensures, few-made f t.items, laws.few c.args.self.then h d means (filter_map f t.items)))
    c.aggregate.result (c.aggregate.ensures.value f makes h d means)
