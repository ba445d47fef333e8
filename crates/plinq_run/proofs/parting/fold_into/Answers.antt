use Rattle.std.proofs.Common.{rules, ◌≡◌, true, sym, ◌∙◌}
use Rattle.plinq_run.proofs.{Runs.decided-may, Runs.planned-undecided, PartsGiven.gives-weaker, PartsGiven.planned-given}
use Rattle.plinq_run.proofs.parting.fold_into.Goals as goal

pub returns-then-plan : goal.returns-then-plan
returns-then-plan g c =
    let q = c.args.query.now in
    let is : c.split-plan.result.decided ≡ true = search rules in
    gives-weaker _ _ _ _ _ _ _ _
    (λ u nothing. decided-may g.L.Lambda.meaning q.ordered q.ops _ u (sym c.split-plan.ensures.plan.decided ∙ is) nothing) c.hand_nothing.ensures

pub fold_chunks_into-requires-clause-may : goal.fold_chunks_into-requires-clause-may
fold_chunks_into-requires-clause-may g c κs within = search (rules, planned-undecided)

pub returns-then-is_empty : goal.returns-then-is_empty
returns-then-is_empty g c = search (rules, planned-given)

pub fold_blocks_into-requires-clause-may : goal.fold_blocks_into-requires-clause-may
fold_blocks_into-requires-clause-may g c κs within = search (rules, planned-undecided)

pub returns : goal.returns
returns g c = search (rules, planned-given)
