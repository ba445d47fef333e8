-- What comes is folded, one item after another.
use Rattle.std.specs.List.{filter_map}
use Rattle.std.proofs.Common.{ap}
use Rattle.std.specs.Prelude.{Some}
use Rattle.plinq_stopping.specs.Asking.{WasStoppedBy}
use Rattle.plinq_passing.proofs.Accumulating.{folded-told}
use Rattle.plinq_query.proofs.merged_by_threads.Merged+Src+S+ByThreads+C+L.aggregate.Goals as goal

pub returns-clause-value : goal.returns-clause-value
returns-clause-value g c f makes h d means =
    let q = c.args.self.query in
    let t = g.Src.Source.whole q.source in
    rw c.told_folded.ensures
    (folded-told g.A.GrowingAggregator.folding (λ k. k.by) (λ k. k.acc) t (h (filter_map f t.items)) (d (filter_map f t.items)) _
    (ap Some c.seed-acc.ensures) (WasStoppedBy g.C.Cancel.asks q.by.token) q.by.degree q.by.growth c.pass_by_threads-outcome.result
    c.pass_by_threads-outcome.new.passed.to
    (c.pass_by_threads-outcome.ensures.passed f makes h d means))
