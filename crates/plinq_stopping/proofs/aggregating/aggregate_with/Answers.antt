use Rattle.std.proofs.Common.{subst}
use Rattle.plinq_ops.specs.Answer.{MayAnswer}
use Rattle.plinq_stopping.specs.inner.Given.{GivesAsked}
use Rattle.plinq_stopping.specs.inner.Summing.{SummedBy}
use Rattle.plinq_stopping.specs.Outcomes.{AggregatesWith}
use Rattle.plinq_stopping.proofs.Reporting.{with-same, aggregate-told}
use Rattle.plinq_stopping.proofs.aggregating.aggregate_with.Goals as goal

pub returns : goal.returns
returns g c =
    let asks = g.C.Cancel.asks in
    let folding = g.A.GrowingAggregator.folding in
    let f = folding c.args.aggregator.now in
    let q = c.args.query.now in
    let IsAnswer = MayAnswer g.L.Lambda.meaning q.ordered q.ops (g.S.Source.whole c.args.source) in
    let into = c.combine_into-ended in
    let sums = into.ensures.0 in
    let seeded = subst (λ x. GivesAsked f asks (SummedBy folding) IsAnswer sums x into.new.acc c.args.token.now into.new.token into.result) c.seed-acc.ensures
    into.ensures.2 in
    let value : AggregatesWith asks f IsAnswer c.args.token.now c.value_of.result into.new.token =
    rw c.value_of.ensures (with-same folding sums c.args.aggregator.now into.ensures.1 asks IsAnswer c.args.token.now into.new.token into.new.acc into.result
    seeded) in
    record {
      told = aggregate-told asks g.C.Cancel.has_told g.met.C.Cancel.keeps_told f IsAnswer c.args.token.now c.value_of.result into.new.token value;
      value = value;
    }
