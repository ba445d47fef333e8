-- with a token the sink has the first batches too
use Rattle.std.proofs.Common.{arith, sym, subst}
use Rattle.plinq_lambda.specs.Formula.{formula_meaning}
use Rattle.plinq_ops.specs.Answer.{MayAnswer}
use Rattle.plinq_ops.specs.Query.{merge_in_force}
use Rattle.plinq_document.specs.WalkedSources.{any_whole}
use Rattle.plinq_cli.specs.inner.StoppedRun.{Leaves}
use Rattle.plinq_cli.proofs.Stopped.{leaves-with}
use Rattle.plinq_cli.proofs.serving.run_until.Goals as goal

pub returns : goal.returns
returns g c =
    let q = c.args.query.now in
    let may = MayAnswer formula_meaning q.ordered q.ops in
    let all = any_whole c.args.source in
    subst (λ most. Leaves g.K.Sink.accepts g.K.Sink.refuses (merge_in_force q.merge) may all most c.args.sink.now c.run_with.new.sink c.run_with.result)
    (sym c.in-Some.is)
    (leaves-with g.K.Sink.accepts g.K.Sink.refuses (merge_in_force q.merge) may all c.args.sink.now c.run_with.new.sink
    c.new-token.result c.run_with.new.token c.in-Some.most (omega arith) c.new-token.ensures.most c.run_with.result c.run_with.ensures.reports)
