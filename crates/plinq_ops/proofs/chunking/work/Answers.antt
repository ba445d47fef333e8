use Rattle.std.proofs.Common.{rules, ◌≡◌, ◌+◌, [], ◌<◌, length, drop, None, ap, sym, ◌∙◌, refl}
use Rattle.std.proofs.lemmas.List.{drop_all}
use Rattle.plinq_ops.specs.Stage.{some_takes_none}
use Rattle.plinq_ops.proofs.Fed.{none-from_is_some}
use Rattle.plinq_ops.proofs.ByKey.{stages-reached}
use Rattle.plinq_ops.proofs.Chunks.{stop-over, after-block, after-none, after-rest_dropped}
use Rattle.plinq_ops.proofs.chunking.work.Goals as goal

pub returns-then-is_over : goal.returns-then-is_over
returns-then-is_over g c =
    let begins = stages-reached g.L.Lambda.meaning c.args.worker.now c.args.first c.in_ok-pipeline.pipeline c.in_ok-pipeline.ensures in
    let stopped =
    stop-over g.L.Lambda.meaning c.args.worker.now c.args.cut c.args.first c.args.items.now c.requires.keyed c.requires.some
    (ap some_takes_none (sym begins) ∙ search rules) in
    record { items = c.requires.empty ∙ sym stopped.0; stop = rw c.stop_over.ensures stopped.1 }

pub work_each-requires-clause-undecided : goal.work_each-requires-clause-undecided
work_each-requires-clause-undecided g c =
    let begins = stages-reached g.L.Lambda.meaning c.args.worker.now c.args.first c.in_ok-pipeline.pipeline c.in_ok-pipeline.ensures in
    ap some_takes_none (sym begins) ∙ search rules

pub returns-then-is_empty : goal.returns-then-is_empty
returns-then-is_empty g c =
    let open_still : c.in_ok-feed_block.field-0 ≡ None = none-from_is_some _ (search rules) in
    let copied : c.extend_from_slice.new.self.items ≡ c.split_at.result.0.now = search rules in
    let past =
    after-block g.L.Lambda.meaning c.args.worker.now c.args.cut c.args.first c.count_within-reached.result c.args.items.now c.split_at.result.0.now
    c.extend_from_slice.new.self.items c.feed_block.new.block.items
    c.in_ok-pipeline.pipeline _ c.requires.keyed c.requires.some c.count_within-reached.ensures.most c.count_within-reached.ensures.below
    c.split_at.ensures.front copied c.in_ok-pipeline.ensures (search rules)
    (rw open_still at c.in_ok-feed_block.ensures.fed) in
    let none : drop c.count_within-reached.result c.args.items.now ≡ [] = drop_all c.count_within-reached.result c.args.items.now (search rules) in
    let all =
    after-none g.L.Lambda.meaning c.args.worker.now c.args.cut (c.args.first + c.count_within-reached.result)
    (drop c.count_within-reached.result c.args.items.now) [] c.feed_block.new.block.items _ none past in
    record { items = all.0; stop = all.1 }

pub returns : goal.returns
returns g c =
    let open_still : c.in_ok-feed_block.field-0 ≡ None = none-from_is_some _ (search rules) in
    let copied : c.extend_from_slice.new.self.items ≡ c.split_at.result.0.now = search rules in
    let past =
    after-block g.L.Lambda.meaning c.args.worker.now c.args.cut c.args.first c.count_within-reached.result c.args.items.now c.split_at.result.0.now
    c.extend_from_slice.new.self.items c.feed_block.new.block.items
    c.in_ok-pipeline.pipeline _ c.requires.keyed c.requires.some c.count_within-reached.ensures.most c.count_within-reached.ensures.below
    c.split_at.ensures.front copied c.in_ok-pipeline.ensures (search rules)
    (rw open_still at c.in_ok-feed_block.ensures.fed) in
    let some : 0 < length (drop c.count_within-reached.result c.args.items.now) = search rules in
    let more : c.count_within-reached.result < length c.args.items.now = search rules in
    let dropped =
    after-rest_dropped g.L.Lambda.meaning c.args.worker.now c.args.cut (c.args.first + c.count_within-reached.result)
    (drop c.count_within-reached.result c.args.items.now) [] c.feed_block.new.block.items _ some (c.count_within-reached.ensures.above more) past in
    record { items = dropped.0; stop = (dropped.1, rw dropped.2 refl) }
