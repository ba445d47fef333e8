-- What is collected is all that was made.
use Rattle.std.proofs.Common.{◌∙◌}
use Rattle.plinq_groups.specs.Collecting.{fold_of-collecting}
use Rattle.plinq_query.proofs.by_threads_calls.Query+Src+S+ByThreads+C.to_vec.Goals as goal

pub returns-in-Ok-clause-value : goal.returns-in-Ok-clause-value
returns-in-Ok-clause-value g c f makes =
    let told = c.in-Ok.ensures.value f makes in
    (c.into_vec.ensures ∙ (told.0 ∙ fold_of-collecting _), told.1)
