-- It is the first of those after as many.
use Rattle.std.specs.Prelude.{drop}
use Rattle.std.specs.List.{filter_map}
use Rattle.plinq_collect.specs.ItemFoldings.{first_of}
use Rattle.plinq_steps.specs.Means.{undecided}
use Rattle.plinq_stopping.specs.Asking.{WasStoppedBy}
use Rattle.plinq_passing.proofs.Accumulating.{first-past, past}
use Rattle.plinq_query.proofs.by_threads_runs.Query+Src+S+ByThreads+C.element_at.Goals as goal

pub returns-clause-value : goal.returns-clause-value
returns-clause-value g c f makes =
    let q = c.args.self in
    let n = c.args.position in
    let t = g.Src.Source.whole q.source in
    let w = c.skip.ensures in
    first-past t (first_of (drop n (filter_map f t.items))) (WasStoppedBy g.C.Cancel.asks q.by.token) q.by.degree q.by.growth c.first.result
    (rw w.0 at (c.first.ensures.value f (λ x. rw w.0 (makes x)) (drop n) undecided (rw w.1 (past n))))
