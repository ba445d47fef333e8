use Rattle.std.specs.List.{list_any}
use Rattle.std.proofs.{Common.rules, Common.◌≡◌, Common.true, Common.false, Common.sym, Common.◌∙◌, Common.refl, lemmas.Result.IfOk-weaker}
use Rattle.plinq_ops.specs.{Stage.some_takes_none, Operator.stages_of, Feeding.is_empty_take}
use Rattle.plinq_ops.proofs.{Answered.answer-of_none, Answered.least-of_none, ByKey.stages-begun, Counts.some_takes_none-stages_of}
use Rattle.plinq_run.specs.inner.SequentialFold.{FoldsAll}
use Rattle.plinq_run.proofs.sequential_fold.fold_sequentially.Goals as goal

-- a Take of none decides the answer
pub returns-then-split : goal.returns-then-split
returns-then-split g c =
    let ss = stages_of g.L.Lambda.meaning c.args.query.now.ops in
    let t = g.S.Source.whole c.args.source.now in
    let decided : c.split.result.decided ≡ list_any is_empty_take c.args.query.now.ops = c.split.ensures.plan.decided in
    let none : some_takes_none ss ≡ true = sym (some_takes_none-stages_of g.L.Lambda.meaning c.args.query.now.ops) ∙ sym decided ∙ search rules in
    let seed : c.seed.result ≡ (g.A.GrowingAggregator.folding c.args.aggregator.now).seed = c.seed.ensures in
    record { same = refl; folded = rw (answer-of_none ss t none) (record { ending = refl; acc = seed }); least = rw c.requires (least-of_none ss t none) }

pub fold_all-requires-clause-undecided : goal.fold_all-requires-clause-undecided
fold_all-requires-clause-undecided g c lives within =
    let m = g.L.Lambda.meaning in
    let ops = c.ops.result.now in
    let decided : c.split.result.decided ≡ list_any is_empty_take c.args.query.now.ops = c.split.ensures.plan.decided in
    let same : ops ≡ c.args.query.now.ops = search rules in
    let some : list_any is_empty_take ops ≡ false = rw same (sym decided ∙ search rules) in
    rw (stages-begun m ops c.in_ok-pipeline.pipeline c.in_ok-pipeline.ensures) (sym (some_takes_none-stages_of m ops) ∙ some)

pub returns : goal.returns
returns g c =
    let same : c.ops.result.now ≡ c.args.query.now.ops = search rules in
    let begins = stages-begun g.L.Lambda.meaning c.args.query.now.ops c.in_ok-pipeline.pipeline (rw same at c.in_ok-pipeline.ensures) in
    let folds = rw begins at c.fold_all.ensures.folds in
    record {
      same = c.fold_all.ensures.same;
      folded = IfOk-weaker c.fold_all.result (FoldsAll _ _ _ _) _ (λ made is. is.folded) folds;
      least = IfOk-weaker c.fold_all.result (FoldsAll _ _ _ _) _ (λ made is. is.least) folds;
    }
