-- Some answer is false unless every item passes.
use Rattle.plinq_steps.specs.Makes.{selected, makes-selected}
use Rattle.plinq_stopping.specs.Asking.{WasStoppedBy}
use Rattle.plinq_passing.proofs.Searching.{not-told, any-false}
use Rattle.plinq_query.proofs.by_threads_runs.Query+Src+S+ByThreads+C.all.Goals as goal

pub returns-clause-value : goal.returns-clause-value
returns-clause-value g c f makes p gives =
    let q = c.args.self in
    let t = g.Src.Source.whole q.source in
    let w = c.select.ensures in
    rw c.told_not.ensures
    (not-told (WasStoppedBy g.C.Cancel.asks q.by.token) q.by.degree q.by.growth t _ _ _ (any-false f p t.items) c.contains.result
    (rw (w.0, w.3) at (c.contains.ensures.value (λ x. selected p (f x))
    (λ x. rw (w.1, w.2) (makes-selected (g.S.Steps.makes q.steps x) _ p gives (f x) (makes x))))))

pub contains-requires-clause-in_one_way : goal.contains-requires-clause-in_one_way
contains-requires-clause-in_one_way g c κs within = let w = c.select.ensures in rw (w.1, w.2) c.requires.in_one_way

pub contains-requires-clause-gives : goal.contains-requires-clause-gives
contains-requires-clause-gives g c κs within = let w = c.select.ensures in rw (w.1, w.2) c.requires.gives
