use Rattle.std.proofs.Common.{rules, ◌≡◌, [], true, refl, sym, ◌∙◌}
use Rattle.plinq_source.specs.{declared.ending.Ending.TheVariants.End, Trace.ended_trace}
use Rattle.plinq_run.specs.declared.combiner.Combiner.{Combiner}
use Rattle.plinq_run.proofs.{Runs.decided-may, PartsGiven.value-given}
use Rattle.plinq_run.proofs.aggregating.aggregate.Goals as goal

pub returns-then-split-clause-value : goal.returns-then-split-clause-value
returns-then-split-clause-value g c =
    let q = c.args.query.now in
    let is : c.split.result.decided ≡ true = search rules in
    let may = decided-may g.L.Lambda.meaning q.ordered q.ops _ _ (sym c.split.ensures.plan.decided ∙ is) refl in
    (ended_trace [] End, may, (search rules, refl))

pub returns-clause-value : goal.returns-clause-value
returns-clause-value g c =
    let d : Combiner _ = record { alloc = c.args.alloc; aggregator = c.args.aggregator } in
    rw c.value_of.ensures (value-given g.A.GrowingAggregator.folding d _ _ _ (rw c.seed-acc.ensures at c.fold_into-outcome.ensures))
