-- The list was empty before the run, so it has the items of the batches that it took.
use Rattle.std.specs.Prelude.{MatchResult}
use Rattle.std.proofs.Common.{refl, subst, sym}
use Rattle.plinq_ops.specs.Answer.{MayAnswer}
use Rattle.plinq_ops.specs.Query.{merge_in_force}
use Rattle.plinq_collect.specs.Telling.{GathersSome, IsShort}
use Rattle.plinq_collect.proofs.Gathered.{gathers-outcome}
use Rattle.plinq_collect.proofs.collecting.to_vec.Goals as goal

pub returns : goal.returns
returns g c =
    let q = c.args.query.now in
    let May = MayAnswer g.L.Lambda.meaning q.ordered q.ops in
    let t = g.S.Source.whole c.args.source in
    let option = merge_in_force q.merge in
    let outcome = c.run_into-outcome in
    subst (λ r. MatchResult r (λ it. GathersSome option (May t) it.0.items it.1) IsShort) (sym c.gathered.ensures)
    (gathers-outcome (λ s. s.0.items) _ option May t _ outcome.new.sink outcome.result (λ v. v.items) outcome.new.sink.0 refl c.new.ensures.items
    outcome.ensures)
