-- An item is left if one is equal.
use Rattle.std.proofs.Common.{refl}
use Rattle.plinq_steps.specs.Makes.{passed, makes-passed}
use Rattle.plinq_stopping.specs.Asking.{WasStoppedBy}
use Rattle.plinq_passing.proofs.Searching.{found-told, any-passed}
use Rattle.plinq_query.proofs.by_threads_runs.Query+Src+S+ByThreads+C.contains.Goals as goal

pub returns-clause-value : goal.returns-clause-value
returns-clause-value g c f makes =
    let q = c.args.self in
    let t = g.Src.Source.whole q.source in
    let p : g.row.S-To.Denot → _ = λ y. g.S.To.PartialEq.eq y c.args.item in
    rw c.told_found.ensures
    (found-told (WasStoppedBy g.C.Cancel.asks q.by.token) q.by.degree q.by.growth t _ _ _ (any-passed f p t.items) c.first.result
    (c.first.ensures.value (λ x. passed p (f x)) (λ x. makes-passed (g.S.Steps.makes q.steps x) _ p (λ y. refl) (f x) (makes x))))
