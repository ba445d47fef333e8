-- What is called with the items of each batch is called with those of all, and the same is lent.
use Rattle.plinq_stopping.specs.Asking.{WasStoppedBy}
use Rattle.plinq_ops.specs.Batches.{batches}
use Rattle.plinq_passing.specs.Ran.{left_trace}
use Rattle.plinq_passing.proofs.Touching.{touched-name}
use Rattle.plinq_passing.proofs.Visited.{calls-ran}
use Rattle.plinq_passing.proofs.leaving.run_left_calls.Goals as goal

pub returns-clause-same : goal.returns-clause-same
returns-clause-same g c =
    touched-name _ _ (λ s. s.by.ghost_name) (λ s y t is. is.1) (λ s y code t is. is.1) c.args.sink.now c.run_left_into.new.sink c.run_left_into.ensures.touched

pub returns-clause-calls : goal.returns-clause-calls
returns-clause-calls g c f makes h d means =
    let left = left_trace f h d (g.Src.Source.whole c.args.source) in
    (calls-ran g.V.Visits.takes g.V.Visits.refuses (λ s. s.by.now) (λ s. s.by.ghost_name)
    (WasStoppedBy g.C.Cancel.asks c.args.settings.token) c.args.settings.degree c.args.settings.growth
    (batches c.args.settings.merge left) left.ending c.args.sink.now c.run_left_into.result c.run_left_into.new.sink
    (c.run_left_into.ensures.ran f makes h d means)).0
