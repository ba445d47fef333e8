-- What was collected is the list of all that came.
use Rattle.plinq_collect.specs.Telling.{items_of}
use Rattle.plinq_ops.specs.Batches.{batches}
use Rattle.plinq_stopping.specs.Asking.{WasStoppedBy}
use Rattle.plinq_passing.specs.Ran.{left_trace}
use Rattle.plinq_passing.proofs.Listing.{listed-told}
use Rattle.plinq_query.proofs.ended_lists.Merged+Src+S+ByThreads+C+L.to_vec_and_ending.Goals as goal

pub returns-clause-value : goal.returns-clause-value
returns-clause-value g c f makes h d means =
    let q = c.args.self.query in
    let left = left_trace f h d (g.Src.Source.whole q.source) in
    listed-told (λ s. s.by) (λ s. s.acc) (λ v. v.items) (items_of (batches q.by.merge left)) left.ending _ c.call_left_by_threads-outcome.new.by
    c.empty_list-list.ensures (WasStoppedBy g.C.Cancel.asks q.by.token) q.by.degree q.by.growth c.call_left_by_threads-outcome.result
    (c.call_left_by_threads-outcome.ensures.calls f makes h d means) c.told_list.result c.told_list.ensures
