-- The first batch that isn't empty has the first item alone.
use Rattle.plinq_stopping.specs.Asking.{WasStoppedBy}
use Rattle.plinq_passing.proofs.Searching.{first-told}
use Rattle.plinq_query.proofs.by_threads_runs.Query+Src+S+ByThreads+C.first.Goals as goal

pub returns-clause-value : goal.returns-clause-value
returns-clause-value g c f makes =
    let w = c.with_merge.ensures in
    rw c.told_first.ensures
    (first-told (WasStoppedBy g.C.Cancel.asks c.args.self.by.token) c.args.self.by.degree c.args.self.by.growth
    (g.Src.Source.whole c.args.self.source) _ _ c.run_into-outcome.result
    c.run_into-outcome.new.sink (rw (w.0, w.2, w.3, w.4, w.5) at (c.run_into-outcome.ensures.ran f (λ x. rw w.1 (makes x)))))
