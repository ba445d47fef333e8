-- What is called with the items of each batch is called with those of all, and the same is lent.
use Rattle.plinq_ops.specs.Answer.{MayAnswer}
use Rattle.plinq_ops.specs.Query.{merge_in_force}
use Rattle.plinq_collect.proofs.Called.{calls-reported, calls-broken}
use Rattle.plinq_collect.proofs.calling.run_each.Goals as goal

pub returns-in-Ok-clause-same : goal.returns-in-Ok-clause-same
returns-in-Ok-clause-same g c =
    let q = c.args.query.now in
    (calls-reported g.V.Visits.steps (λ s. s.by.now) (λ s. s.by.ghost_name) (merge_in_force q.merge) (MayAnswer g.L.Lambda.meaning q.ordered q.ops)
    (g.S.Source.whole c.args.source) _ c.run_into.new.sink c.in-Ok.report c.in-Ok.ensures).1

pub returns-in-Ok-clause-calls : goal.returns-in-Ok-clause-calls
returns-in-Ok-clause-calls g c =
    let q = c.args.query.now in
    (calls-reported g.V.Visits.steps (λ s. s.by.now) (λ s. s.by.ghost_name) (merge_in_force q.merge) (MayAnswer g.L.Lambda.meaning q.ordered q.ops)
    (g.S.Source.whole c.args.source) _ c.run_into.new.sink c.in-Ok.report c.in-Ok.ensures).0

pub returns-in-Err-clause-same : goal.returns-in-Err-clause-same
returns-in-Err-clause-same g c =
    let q = c.args.query.now in
    (calls-broken g.V.Visits.steps (λ s. s.by.now) (λ s. s.by.ghost_name) (merge_in_force q.merge) (MayAnswer g.L.Lambda.meaning q.ordered q.ops)
    (g.S.Source.whole c.args.source) _ c.run_into.new.sink c.in-Err.fault c.in-Err.ensures).1

pub returns-in-Err-clause-calls : goal.returns-in-Err-clause-calls
returns-in-Err-clause-calls g c =
    let q = c.args.query.now in
    (calls-broken g.V.Visits.steps (λ s. s.by.now) (λ s. s.by.ghost_name) (merge_in_force q.merge) (MayAnswer g.L.Lambda.meaning q.ordered q.ops)
    (g.S.Source.whole c.args.source) _ c.run_into.new.sink c.in-Err.fault c.in-Err.ensures).0
