-- Whether there is an item is what the aggregate says.
use Rattle.std.proofs.Common.{subst}
use Rattle.plinq_ops.specs.Answer.{MayAnswer}
use Rattle.plinq_collect.specs.ItemFoldings.{has_item, being_there, fold_of-there}
use Rattle.plinq_collect.specs.Telling.{TellsSome}
use Rattle.plinq_collect.proofs.Gathered.{tells}
use Rattle.plinq_collect.proofs.telling.is_there.Goals as goal

pub returns : goal.returns
returns g c =
    subst (λ q. TellsSome has_item (MayAnswer g.L.Lambda.meaning q.ordered q.ops (g.S.Source.whole c.args.source)) c.aggregate.result) c.in-Ok.ensures
    (tells being_there has_item (MayAnswer g.L.Lambda.meaning c.in-Ok.query.ordered c.in-Ok.query.ops (g.S.Source.whole c.args.source)) c.aggregate.result
    fold_of-there c.aggregate.ensures.value)
