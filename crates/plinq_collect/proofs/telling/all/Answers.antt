-- All pass where nothing is left of those after the first that fails.
use Rattle.std.proofs.Common.{subst, sym}
use Rattle.std.specs.Prelude.{pos, [], ◌∷◌, ◌++◌}
use Rattle.plinq_ops.specs.declared.op.Op.TheVariants.{Take, SkipWhile}
use Rattle.plinq_ops.specs.Answer.{MayAnswer}
use Rattle.plinq_collect.specs.ItemFoldings.{has_none}
use Rattle.plinq_collect.specs.Telling.{TellsSome, negated}
use Rattle.plinq_collect.proofs.Gathered.{tells-none}
use Rattle.plinq_collect.proofs.telling.all.Goals as goal

pub returns : goal.returns
returns g c =
    subst (λ r. TellsSome has_none (MayAnswer g.L.Lambda.meaning c.args.query.ordered ((c.args.query.ops ++ SkipWhile c.args.test ∷ []) ++ Take (pos 1) ∷ [])
    (g.S.Source.whole c.args.source)) r) (sym c.negated.ensures)
    (subst (λ q. TellsSome has_none (MayAnswer g.L.Lambda.meaning q.ordered (q.ops ++ Take (pos 1) ∷ []) (g.S.Source.whole c.args.source))
    (negated c.is_there.result)) c.in-Ok.ensures
    (tells-none (MayAnswer g.L.Lambda.meaning c.in-Ok.query.ordered (c.in-Ok.query.ops ++ Take (pos 1) ∷ []) (g.S.Source.whole c.args.source))
    c.is_there.result c.is_there.ensures))
