use Rattle.std.proofs.Common.{rules, ◌≡◌, refl, subst}
use Rattle.plinq_ops.specs.Answer.{MayAnswer}
use Rattle.plinq_ops.specs.Query.{merge_in_force}
use Rattle.plinq_mapped.specs.Making.{MadeBy}
use Rattle.plinq_stopping.specs.Outcomes.{RunsMadeOfWith}
use Rattle.plinq_stopping.proofs.Reporting.{given-asked, run-with, run-told, given-same}
use Rattle.plinq_stopping.proofs.mapped_runs.run_mapped_with.Goals as goal

pub returns : goal.returns
returns g c =
    let asks = g.C.Cancel.asks in
    let accepts = g.K.Sink.accepts in
    let refuses = g.K.Sink.refuses in
    let q = c.args.query.now in
    let makes = g.M.MakeOf.makes c.args.mapping.now.make in
    let IsAnswer = MayAnswer g.L.Lambda.meaning q.ordered q.ops (g.S.Source.whole c.args.source) in
    let w' = c.fold_into-outcome.new.out in
    let last = c.ending_of.new.with in
    let option : c.merge_option.result ≡ merge_in_force q.merge = search rules in
    let given = given-asked _ asks (λ v. v.made) (MadeBy accepts refuses) IsAnswer _ _ w' refl w'.is_stopped refl c.fold_into-outcome.result
    c.ending_of.result last
    c.ending_of.ensures.asked c.fold_into-outcome.ensures in
    let same = given-same _ asks (λ v. v.made) (MadeBy accepts refuses) IsAnswer _ _ w' c.fold_into-outcome.result c.fold_into-outcome.ensures in
    let ran = run-with makes accepts refuses c.merge_option.result c.new.result c.new.ensures.size c.new.ensures.held asks IsAnswer _ _ _ _
    c.ending_of.result given in
    let runs : RunsMadeOfWith asks accepts refuses (merge_in_force q.merge) makes IsAnswer c.args.token.now c.args.sink.now c.ending_of.result last.token.now
    last.sink.now =
    subst (λ o. RunsMadeOfWith asks accepts refuses o makes IsAnswer c.args.token.now c.args.sink.now c.ending_of.result last.token.now last.sink.now) option
    ran in
    let token : c.token-1.given.0 ≡ last.token.now = search (rules, same, c.ending_of.ensures.same) in
    let sink : c.sink-1.given.0 ≡ last.sink.now = search (rules, same, c.ending_of.ensures.same) in
    record {
      told =
          rw token (run-told asks g.C.Cancel.has_told g.met.C.Cancel.keeps_told accepts refuses (merge_in_force q.merge) makes IsAnswer c.args.token.now
          c.args.sink.now c.ending_of.result last.token.now last.sink.now runs);
      runs = rw (token, sink) runs;
    }
