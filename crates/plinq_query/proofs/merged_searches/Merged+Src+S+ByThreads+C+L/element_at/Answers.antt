-- It is the first of those after as many.
use Rattle.std.specs.Prelude.{drop}
use Rattle.plinq_query.proofs.Leaving.{follows}
use Rattle.plinq_query.proofs.merged_searches.Merged+Src+S+ByThreads+C+L.element_at.Goals as goal

pub returns-clause-value : goal.returns-clause-value
returns-clause-value g c f makes h d means =
    let n = c.args.position in
    let w = c.skip.ensures in
    rw w.0 at (c.first.ensures.value f (λ x. rw w.0 (makes x)) (λ xs. drop n (h xs)) d (rw (w.1, w.2) (follows h d means (drop n))))
