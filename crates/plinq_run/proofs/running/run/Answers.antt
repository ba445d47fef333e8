use Rattle.std.proofs.Common.{rules, ◌≡◌, [], true, sym, ap, ◌∙◌, subst, refl}
use Rattle.std.proofs.lemmas.Result.{IfOk-weaker}
use Rattle.plinq_source.specs.{declared.ending.Ending.TheVariants.End, Trace.Trace, Trace.ended_trace}
use Rattle.plinq_keyed.specs.History.{IsLegalHistory}
use Rattle.plinq_partition.specs.Partitions.{all_shares}
use Rattle.plinq_ops.specs.{Batches.batches, Query.merge_in_force, Sequential.answer_of}
use Rattle.plinq_run.specs.Handed.{has_close}
use Rattle.plinq_run.proofs.{Handed.closed-in_order, Headline.ordered-delivered}
use Rattle.plinq_run.proofs.Runs.{whole-reported, broken-reported, decided-may, may-sequential, planned-undecided}
use Rattle.plinq_run.proofs.running.run.Goals as goal

-- a decided query
pub returns-then-plan-clause-reports : goal.returns-then-plan-clause-reports
returns-then-plan-clause-reports g c =
    let q = c.args.query.now in
    let decided : c.split-plan.result.decided ≡ true = search rules in
    let may = λ (t : Trace _). decided-may g.L.Lambda.meaning q.ordered q.ops t (ended_trace [] End) (sym c.split-plan.ensures.plan.decided ∙ decided) refl in
    record { answer = ended_trace [] End; may = may _; accounts = may _; has_run = record { delivered = refl; ending = refl } }

pub returns-then-plan-clause-ordered : goal.returns-then-plan-clause-ordered
returns-then-plan-clause-ordered g c = λ ordered. search (rules, ordered-delivered, returns-then-plan-clause-reports g c)

-- no memory for what delivers
pub returns-in_default-clause-reports : goal.returns-in_default-clause-reports
returns-in_default-clause-reports g c =
    let q = c.args.query.now in
    let answer = answer_of g.L.Lambda.meaning q.ops (g.S.Source.whole c.args.source) in
    record { answer = answer; may = may-sequential g.L.Lambda.meaning q.ordered q.ops _; broken = ([], batches (merge_in_force q.merge) answer, refl, refl) }

pub returns-in_default-clause-ordered : goal.returns-in_default-clause-ordered
returns-in_default-clause-ordered g c = λ ordered. search (rules, ordered-delivered, returns-in_default-clause-reports g c)

pub conduct_plan-requires-clause-may : goal.conduct_plan-requires-clause-may
conduct_plan-requires-clause-may g c lifetimes outlive = search (rules, planned-undecided)

pub conduct_plan-requires-clause-takes : goal.conduct_plan-requires-clause-takes
conduct_plan-requires-clause-takes g c lifetimes outlive = c.in-Ok.ensures.ready (c.split-plan.ensures.undecided (search rules)).1

-- an answer
pub returns-in-Ok-conduct_plan-clause-legal : goal.returns-in-Ok-conduct_plan-clause-legal
returns-in-Ok-conduct_plan-clause-legal g c =
    IfOk-weaker c.report.result _ _ (λ r is. subst (λ t. IsLegalHistory t r.records.items) c.in-Ok-conduct_plan.ensures.0.origin is.legal)
    c.report.ensures.reports

pub returns-in-Ok-conduct_plan-clause-closed : goal.returns-in-Ok-conduct_plan-clause-closed
returns-in-Ok-conduct_plan-clause-closed g c = λ undecided.
    let closed = closed-in_order (all_shares c.in-Ok-conduct_plan.conducted.ended.partitions.items) c.in-Ok-conduct_plan.ensures.0.closed in
    IfOk-weaker c.report.result _ _ (λ r is. ap has_close is.records ∙ closed) c.report.ensures.reports

pub returns-in-Ok-conduct_plan-clause-reports : goal.returns-in-Ok-conduct_plan-clause-reports
returns-in-Ok-conduct_plan-clause-reports g c =
    let few = (g.met.S.Source g.world.𝓛 g.world.𝓜 g.world.𝓡 (λ s a. a, λ a. a, λ a. a, λ a. a)).few c.args.source in
    whole-reported _ _ _ c.split-plan.ensures.plan _ (search (rules, planned-undecided)) _ few _ _ _
    (rw c.merge_option.ensures at c.in-Ok.ensures.begun) _ _ _ _ c.in-Ok-conduct_plan.ensures.1 c.in-Ok-conduct_plan.ensures.0.origin
    c.report.ensures.reports c.report.ensures.cause

pub returns-in-Ok-conduct_plan-clause-ordered : goal.returns-in-Ok-conduct_plan-clause-ordered
returns-in-Ok-conduct_plan-clause-ordered g c = λ ordered. search (rules, ordered-delivered, returns-in-Ok-conduct_plan-clause-reports g c)

-- a fault
pub returns-in-Err-clause-reports : goal.returns-in-Err-clause-reports
returns-in-Err-clause-reports g c =
    let few = (g.met.S.Source g.world.𝓛 g.world.𝓜 g.world.𝓡 (λ s a. a, λ a. a, λ a. a, λ a. a)).few c.args.source in
    broken-reported _ _ _ c.split-plan.ensures.plan _ (search (rules, planned-undecided)) _ few _ _ _
    (rw c.merge_option.ensures at c.in-Ok.ensures.begun) _ _ _ c.in-Err.ensures

pub returns-in-Err-clause-ordered : goal.returns-in-Err-clause-ordered
returns-in-Err-clause-ordered g c = λ ordered. search (rules, ordered-delivered, returns-in-Err-clause-reports g c)
