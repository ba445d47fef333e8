use Rattle.std.proofs.Common.{rules, ◌≡◌, true, false, sym, ◌∙◌}
use Rattle.std.specs.List.{list_any}
use Rattle.plinq_ops.specs.Stage.{some_takes_none}
use Rattle.plinq_ops.specs.Operator.{stages_of}
use Rattle.plinq_ops.specs.Feeding.{is_empty_take}
use Rattle.plinq_ops.proofs.Answered.{answer-of_none, least-of_none, answer-fed}
use Rattle.plinq_ops.proofs.ByKey.{stages-begun}
use Rattle.plinq_ops.proofs.Counts.{some_takes_none-stages_of}
use Rattle.plinq_ops.proofs.answering.sequential.Goals as goal

pub returns-then-is_decided-clause-answer : goal.returns-then-is_decided-clause-answer
returns-then-is_decided-clause-answer g c =
    let m = g.L.Lambda.meaning in
    let ops = c.args.query.now.ops in
    let none : some_takes_none (stages_of m ops) ≡ true = sym (some_takes_none-stages_of m ops) ∙ search rules in
    rw c.new-items.ensures.items (sym (answer-of_none (stages_of m ops) (g.S.Source.whole c.args.source.now) none))

pub returns-then-is_decided-clause-least : goal.returns-then-is_decided-clause-least
returns-then-is_decided-clause-least g c =
    let m = g.L.Lambda.meaning in
    let ops = c.args.query.now.ops in
    let none : some_takes_none (stages_of m ops) ≡ true = sym (some_takes_none-stages_of m ops) ∙ search rules in
    rw c.requires (least-of_none (stages_of m ops) (g.S.Source.whole c.args.source.now) none)

pub feed_all-requires-clause-undecided : goal.feed_all-requires-clause-undecided
feed_all-requires-clause-undecided g c lives within =
    let m = g.L.Lambda.meaning in
    let ops = c.ops-ops.result.now in
    let some : list_any is_empty_take ops ≡ false = search rules in
    rw (stages-begun m ops c.in_ok-pipeline.pipeline c.in_ok-pipeline.ensures) (sym (some_takes_none-stages_of m ops) ∙ some)

pub returns-clause-answer : goal.returns-clause-answer
returns-clause-answer g c =
    let m = g.L.Lambda.meaning in
    let ops = c.args.query.now.ops in
    let same : c.ops-ops.result.now ≡ ops = search rules in
    let begins = stages-begun m ops c.in_ok-pipeline.pipeline (rw same at c.in_ok-pipeline.ensures) in
    let all = rw begins at c.in_ok-ending.ensures.fed in
    answer-fed (stages_of m ops) _ (g.S.Source.whole c.args.source.now) c.new-items.result.items c.feed_all.new.out.items c.in_ok-ending.ending
    c.new-items.ensures.items all.fed

pub returns-clause-least : goal.returns-clause-least
returns-clause-least g c =
    let m = g.L.Lambda.meaning in
    let ops = c.args.query.now.ops in
    let same : c.ops-ops.result.now ≡ ops = search rules in
    (rw (stages-begun m ops c.in_ok-pipeline.pipeline (rw same at c.in_ok-pipeline.ensures)) at c.in_ok-ending.ensures.fed).least
