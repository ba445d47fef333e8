use Rattle.plinq_merge.proofs.MergerWords.{rules, ◌≡◌, true, ap, sym, ◌∙◌, list_any, some_takes_none, stages_of, is_empty_take, stages-begun}
use Rattle.plinq_merge.proofs.MergerWords.{some_takes_none-stages_of, size_of}
use Rattle.plinq_ops.specs.Batches.{batch_size}
use Rattle.plinq_ops.specs.Query.{merge_in_force}
use Rattle.plinq_merge.proofs.Delivered.{begun-undecided, answer-none}
use Rattle.plinq_merge.proofs.one_thread.deliver_answer.Goals as goal

pub returns-then-split-clause-delivers : goal.returns-then-split-clause-delivers
returns-then-split-clause-delivers g c =
    let ops = c.args.query.now.ops in
    let decided : c.split.result.decided ≡ list_any is_empty_take ops = c.split.ensures.plan.decided in
    let none : some_takes_none (stages_of g.L.Lambda.meaning ops) ≡ true =
    sym (some_takes_none-stages_of g.L.Lambda.meaning ops) ∙ sym decided ∙ search rules in
    answer-none none c.requires.fresh

pub deliver_blocks-requires-clause-undecided : goal.deliver_blocks-requires-clause-undecided
deliver_blocks-requires-clause-undecided g c lives within =
    begun-undecided g.L.Lambda.meaning c.in_ok-pipeline.pipeline c.args.query.now.ops c.ops.result.now c.split.result.decided c.split.ensures.plan.decided
    (search rules) (search rules) c.in_ok-pipeline.ensures

pub returns-clause-delivers : goal.returns-clause-delivers
returns-clause-delivers g c =
    let same : c.ops.result.now ≡ c.args.query.now.ops = search rules in
    let begins = stages-begun g.L.Lambda.meaning c.args.query.now.ops c.in_ok-pipeline.pipeline (rw same at c.in_ok-pipeline.ensures) in
    let size : size_of c.in_ok-buffer.buffer ≡ batch_size (merge_in_force c.args.query.now.merge) =
    c.in_ok-buffer.ensures.size ∙ ap batch_size c.merge_option.ensures in
    rw (begins, size) at c.deliver_blocks.ensures.delivers
