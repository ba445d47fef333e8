-- The item at a place is the first after those before it.
use Rattle.std.proofs.Common.{rules, subst}
use Rattle.std.specs.Prelude.{◌≡◌, pos, [], ◌∷◌, ◌++◌}
use Rattle.plinq_ops.specs.declared.op.Op.TheVariants.{Take, Skip}
use Rattle.plinq_ops.specs.Answer.{MayAnswer}
use Rattle.plinq_collect.specs.ItemFoldings.{first_of}
use Rattle.plinq_collect.specs.Telling.{TellsSome}
use Rattle.plinq_collect.proofs.telling.element_at.Goals as goal

pub returns : goal.returns
returns g c =
    let skipped : c.in-Ok.query ≡ record c.args.query { ops = c.args.query.ops ++ Skip (pos c.args.place) ∷ [] } = search rules in
    subst (λ q. TellsSome first_of (MayAnswer g.L.Lambda.meaning q.ordered (q.ops ++ Take (pos 1) ∷ []) (g.S.Source.whole c.args.source)) c.first.result)
    skipped c.first.ensures
