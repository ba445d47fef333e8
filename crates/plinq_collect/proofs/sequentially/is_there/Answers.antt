-- Whether there is an item is what the aggregate says.
use Rattle.std.proofs.Common.{subst}
use Rattle.std.specs.Prelude.{◌≡◌}
use Rattle.plinq_ops.specs.Sequential.{answer_of}
use Rattle.plinq_collect.specs.ItemFoldings.{has_item, being_there, fold_of-there}
use Rattle.plinq_collect.specs.Telling.{TellsSome}
use Rattle.plinq_collect.proofs.Gathered.{tells-one}
use Rattle.plinq_collect.proofs.sequentially.is_there.Goals as goal

pub returns-clause-value : goal.returns-clause-value
returns-clause-value g c =
    subst (λ q. TellsSome has_item (λ u. u ≡ answer_of g.L.Lambda.meaning q.ops (g.S.Source.whole c.args.source)) c.aggregate.result) c.in-Ok.ensures
    (tells-one being_there has_item (answer_of g.L.Lambda.meaning c.in-Ok.query.ops (g.S.Source.whole c.args.source)) c.aggregate.result fold_of-there
    c.aggregate.ensures.value)
