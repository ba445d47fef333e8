-- What was collected is the list of all that came.
use Rattle.plinq_collect.specs.Telling.{items_of}
use Rattle.plinq_ops.specs.Batches.{batches}
use Rattle.plinq_stopping.specs.Asking.{WasStoppedBy}
use Rattle.plinq_passing.specs.Ran.{steps_made}
use Rattle.plinq_passing.proofs.Listing.{listed-told}
use Rattle.plinq_query.proofs.ended_lists.Query+Src+S+ByThreads+C.to_vec_and_ending.Goals as goal

pub returns-clause-value : goal.returns-clause-value
returns-clause-value g c f makes =
    let t = g.Src.Source.whole c.args.self.source in
    listed-told (λ s. s.by) (λ s. s.acc) (λ v. v.items) (items_of (batches c.args.self.by.merge (steps_made f t))) t.ending _ c.call_by_threads-outcome.new.by
    c.empty_list-list.ensures (WasStoppedBy g.C.Cancel.asks c.args.self.by.token) c.args.self.by.degree c.args.self.by.growth c.call_by_threads-outcome.result
    (c.call_by_threads-outcome.ensures.calls f makes) c.told_list.result c.told_list.ensures
