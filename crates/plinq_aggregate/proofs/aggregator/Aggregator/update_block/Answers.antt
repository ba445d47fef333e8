use Rattle.std.proofs.Common.{rules}
use Rattle.std.proofs.lemmas.List.Sums.{fold_more}
use Rattle.plinq_aggregate.proofs.aggregator.Aggregator.update_block.Goals as goal

pub loop-item-preserved : goal.loop-item-preserved
loop-item-preserved g c = search (rules, fold_more)
