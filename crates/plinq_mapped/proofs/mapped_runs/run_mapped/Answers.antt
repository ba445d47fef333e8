use Rattle.std.proofs.Common.{rules, ◌≡◌, subst}
use Rattle.plinq_ops.specs.Answer.{MayAnswer}
use Rattle.plinq_ops.specs.Query.{merge_in_force}
use Rattle.plinq_mapped.specs.Mapped.{RunsMadeOf}
use Rattle.plinq_mapped.proofs.MadeOf.{runs-made, ordered-made}
use Rattle.plinq_mapped.proofs.mapped_runs.run_mapped.Goals as goal

pub returns-clause-runs : goal.returns-clause-runs
returns-clause-runs g c =
    let q = c.args.query.now in
    let makes = g.M.MakeOf.makes c.args.mapping.now.make in
    let IsAnswer = MayAnswer g.L.Lambda.meaning q.ordered q.ops (g.S.Source.whole c.args.source) in
    let option : c.merge_option.result ≡ merge_in_force q.merge = search rules in
    subst (λ o. RunsMadeOf g.K.Sink.accepts g.K.Sink.refuses o makes IsAnswer c.args.sink.now c.fold_into.new.out c.fold_into.result) option
    (runs-made makes g.K.Sink.accepts g.K.Sink.refuses c.merge_option.result c.new-taker.result c.new-taker.ensures.size c.new-taker.ensures.held IsAnswer
    c.args.sink.now c.fold_into.result c.fold_into.new.out c.fold_into.ensures)

pub returns-clause-ordered : goal.returns-clause-ordered
returns-clause-ordered g c = λ ordered.
    let q = c.args.query.now in
    ordered-made (g.M.MakeOf.makes c.args.mapping.now.make) g.K.Sink.accepts g.K.Sink.refuses (merge_in_force q.merge) g.L.Lambda.meaning q.ordered q.ops
    (g.S.Source.whole c.args.source) c.args.sink.now c.fold_into.result c.fold_into.new.out ordered
    (returns-clause-runs g c)
