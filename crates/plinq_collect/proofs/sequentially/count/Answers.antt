-- How many items there are is what the aggregate counts.
use Rattle.plinq_ops.specs.Sequential.{answer_of}
use Rattle.plinq_collect.specs.ItemFoldings.{wrapped_count, counting_items, fold_of-counting_items}
use Rattle.plinq_collect.proofs.Gathered.{tells-one}
use Rattle.plinq_collect.proofs.sequentially.count.Goals as goal

pub returns-clause-value : goal.returns-clause-value
returns-clause-value g c =
    tells-one counting_items wrapped_count (answer_of g.L.Lambda.meaning c.args.query.now.ops (g.S.Source.whole c.args.source)) c.aggregate.result
    fold_of-counting_items c.aggregate.ensures.value
