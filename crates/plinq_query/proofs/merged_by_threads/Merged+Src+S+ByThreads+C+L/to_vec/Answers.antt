-- What is collected is all that is left.
use Rattle.std.proofs.Common.{◌∙◌}
use Rattle.plinq_groups.specs.Collecting.{fold_of-collecting}
use Rattle.plinq_query.proofs.merged_by_threads.Merged+Src+S+ByThreads+C+L.to_vec.Goals as goal

pub returns-in-Ok-clause-value : goal.returns-in-Ok-clause-value
returns-in-Ok-clause-value g c f makes h d means =
    let told = c.in-Ok.ensures.value f makes h d means in
    (c.into_vec.ensures ∙ (told.0 ∙ fold_of-collecting _), told.1)
