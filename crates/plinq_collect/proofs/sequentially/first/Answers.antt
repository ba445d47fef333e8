-- The first of the items is what the aggregate picks.
use Rattle.std.proofs.Common.{subst}
use Rattle.std.specs.Prelude.{◌≡◌}
use Rattle.plinq_ops.specs.Sequential.{answer_of}
use Rattle.plinq_collect.specs.ItemFoldings.{first_of, picking_first, fold_of-first}
use Rattle.plinq_collect.specs.Telling.{TellsSome}
use Rattle.plinq_collect.proofs.Gathered.{tells-one}
use Rattle.plinq_collect.proofs.sequentially.first.Goals as goal

pub returns-clause-value : goal.returns-clause-value
returns-clause-value g c =
    subst (λ q. TellsSome first_of (λ u. u ≡ answer_of g.L.Lambda.meaning q.ops (g.S.Source.whole c.args.source)) c.aggregate.result) c.in-Ok.ensures
    (tells-one picking_first first_of (answer_of g.L.Lambda.meaning c.in-Ok.query.ops (g.S.Source.whole c.args.source)) c.aggregate.result fold_of-first
    c.aggregate.ensures.value)
