-- The first of the items is what the aggregate picks.
use Rattle.std.proofs.Common.{subst}
use Rattle.plinq_ops.specs.Answer.{MayAnswer}
use Rattle.plinq_collect.specs.ItemFoldings.{first_of, picking_first, fold_of-first}
use Rattle.plinq_collect.specs.Telling.{TellsSome}
use Rattle.plinq_collect.proofs.Gathered.{tells}
use Rattle.plinq_collect.proofs.telling.first.Goals as goal

pub returns : goal.returns
returns g c =
    subst (λ q. TellsSome first_of (MayAnswer g.L.Lambda.meaning q.ordered q.ops (g.S.Source.whole c.args.source)) c.aggregate.result) c.in-Ok.ensures
    (tells picking_first first_of (MayAnswer g.L.Lambda.meaning c.in-Ok.query.ordered c.in-Ok.query.ops (g.S.Source.whole c.args.source)) c.aggregate.result
    fold_of-first c.aggregate.ensures.value)
