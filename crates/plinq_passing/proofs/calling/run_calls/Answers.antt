-- What is called with the items of each batch is called with those of all, and the same is lent.
use Rattle.plinq_stopping.specs.Asking.{WasStoppedBy}
use Rattle.plinq_ops.specs.Batches.{batches}
use Rattle.plinq_passing.specs.Ran.{steps_made}
use Rattle.plinq_passing.proofs.Visited.{calls-ran}
use Rattle.plinq_passing.proofs.calling.run_calls.Goals as goal

pub returns-clause-same : goal.returns-clause-same
returns-clause-same g c =
    let t = g.Src.Source.whole c.args.source in
    let some = (g.met.S.Steps g.world.𝓛 g.world.𝓜 g.world.𝓡 ((λ s x. x), (λ x. x), (λ x. x), λ x. x)).makes_some c.args.steps c.requires.gives in
    (calls-ran g.V.Visits.takes g.V.Visits.refuses (λ s. s.by.now) (λ s. s.by.ghost_name)
    (WasStoppedBy g.C.Cancel.asks c.args.settings.token) c.args.settings.degree c.args.settings.growth
    (batches c.args.settings.merge (steps_made (λ x. (some x).0) t)) t.ending c.args.sink.now c.run_steps_into.result c.run_steps_into.new.sink
    (c.run_steps_into.ensures.ran (λ x. (some x).0) (λ x. (some x).1))).1

pub returns-clause-calls : goal.returns-clause-calls
returns-clause-calls g c f makes =
    let t = g.Src.Source.whole c.args.source in
    (calls-ran g.V.Visits.takes g.V.Visits.refuses (λ s. s.by.now) (λ s. s.by.ghost_name)
    (WasStoppedBy g.C.Cancel.asks c.args.settings.token) c.args.settings.degree c.args.settings.growth
    (batches c.args.settings.merge (steps_made f t)) t.ending c.args.sink.now c.run_steps_into.result c.run_steps_into.new.sink
    (c.run_steps_into.ensures.ran f makes)).0
