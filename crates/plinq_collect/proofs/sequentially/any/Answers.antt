-- Some item passes where the filter leaves one.
use Rattle.std.proofs.Common.{subst}
use Rattle.std.specs.Prelude.{◌≡◌, pos, [], ◌∷◌, ◌++◌}
use Rattle.plinq_ops.specs.declared.op.Op.TheVariants.{Take}
use Rattle.plinq_ops.specs.Sequential.{answer_of}
use Rattle.plinq_collect.specs.ItemFoldings.{has_item}
use Rattle.plinq_collect.specs.Telling.{TellsSome}
use Rattle.plinq_collect.proofs.sequentially.any.Goals as goal

pub returns-clause-value : goal.returns-clause-value
returns-clause-value g c =
    subst (λ q. TellsSome has_item (λ u. u ≡ answer_of g.L.Lambda.meaning (q.ops ++ Take (pos 1) ∷ []) (g.S.Source.whole c.args.source)) c.is_there.result)
    c.in-Ok.ensures c.is_there.ensures.value
