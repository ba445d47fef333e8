use Rattle.std.proofs.Common.{rules, ◌≡◌, refl}
use Rattle.plinq_ops.specs.Answer.{MayAnswer}
use Rattle.plinq_stopping.specs.declared.sums.Sums.{Sums}
use Rattle.plinq_stopping.specs.inner.Summing.{SummedBy}
use Rattle.plinq_stopping.proofs.Reporting.{given-asked, given-same}
use Rattle.plinq_stopping.proofs.aggregating.combine_into.Goals as goal

pub returns : goal.returns
returns g c =
    let asks = g.C.Cancel.asks in
    let folding = g.A.GrowingAggregator.folding in
    let q = c.args.query.now in
    let IsAnswer = MayAnswer g.L.Lambda.meaning q.ordered q.ops (g.S.Source.whole c.args.source) in
    let sums : Sums _ = record { alloc = c.args.alloc; aggregator = c.args.aggregator } in
    let w' = c.fold_into-outcome.new.out in
    let last = c.ending_of.new.with in
    let given = given-asked _ asks (λ v. v) (SummedBy folding) IsAnswer sums _ w' refl w'.is_stopped refl c.fold_into-outcome.result c.ending_of.result last
    c.ending_of.ensures.asked c.fold_into-outcome.ensures in
    let same = given-same _ asks (λ v. v) (SummedBy folding) IsAnswer sums _ w' c.fold_into-outcome.result c.fold_into-outcome.ensures in
    let token : c.token-1.given.0 ≡ last.token.now = search (rules, same, c.ending_of.ensures.same) in
    let acc : c.acc-1.given.0 ≡ last.sink.now = search (rules, same, c.ending_of.ensures.same) in
    rw (token, acc) (sums, refl, given)
