-- Some item passes where the filter leaves one.
use Rattle.std.proofs.Common.{subst}
use Rattle.std.specs.Prelude.{pos, [], ◌∷◌, ◌++◌}
use Rattle.plinq_ops.specs.declared.op.Op.TheVariants.{Take}
use Rattle.plinq_ops.specs.Answer.{MayAnswer}
use Rattle.plinq_collect.specs.ItemFoldings.{has_item}
use Rattle.plinq_collect.specs.Telling.{TellsSome}
use Rattle.plinq_collect.proofs.telling.any.Goals as goal

pub returns : goal.returns
returns g c =
    subst (λ q. TellsSome has_item (MayAnswer g.L.Lambda.meaning q.ordered (q.ops ++ Take (pos 1) ∷ []) (g.S.Source.whole c.args.source)) c.is_there.result)
    c.in-Ok.ensures c.is_there.ensures
