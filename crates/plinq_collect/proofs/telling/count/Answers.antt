-- How many items there are is what the aggregate counts.
use Rattle.plinq_ops.specs.Answer.{MayAnswer}
use Rattle.plinq_collect.specs.ItemFoldings.{wrapped_count, counting_items, fold_of-counting_items}
use Rattle.plinq_collect.proofs.Gathered.{tells}
use Rattle.plinq_collect.proofs.telling.count.Goals as goal

pub returns : goal.returns
returns g c =
    tells counting_items wrapped_count (MayAnswer g.L.Lambda.meaning c.args.query.now.ordered c.args.query.now.ops (g.S.Source.whole c.args.source))
    c.aggregate.result fold_of-counting_items c.aggregate.ensures.value
