-- All pass where nothing is left of those after the first that fails.
use Rattle.std.proofs.Common.{subst, sym}
use Rattle.std.specs.Prelude.{◌≡◌, pos, [], ◌∷◌, ◌++◌}
use Rattle.plinq_ops.specs.declared.op.Op.TheVariants.{Take, SkipWhile}
use Rattle.plinq_ops.specs.Sequential.{answer_of}
use Rattle.plinq_collect.specs.ItemFoldings.{has_none}
use Rattle.plinq_collect.specs.Telling.{LacksRoom, TellsSome, negated}
use Rattle.plinq_collect.proofs.Gathered.{tells-none, lacks-negated}
use Rattle.plinq_collect.proofs.sequentially.all.Goals as goal

pub returns-clause-value : goal.returns-clause-value
returns-clause-value g c =
    subst (λ r. TellsSome has_none (λ u. u ≡ answer_of g.L.Lambda.meaning ((c.args.query.ops ++ SkipWhile c.args.test ∷ []) ++ Take (pos 1) ∷ [])
    (g.S.Source.whole c.args.source)) r) (sym c.negated.ensures)
    (subst (λ q. TellsSome has_none (λ u. u ≡ answer_of g.L.Lambda.meaning (q.ops ++ Take (pos 1) ∷ []) (g.S.Source.whole c.args.source))
    (negated c.is_there.result)) c.in-Ok.ensures
    (tells-none (λ u. u ≡ answer_of g.L.Lambda.meaning (c.in-Ok.query.ops ++ Take (pos 1) ∷ []) (g.S.Source.whole c.args.source)) c.is_there.result
    c.is_there.ensures.value))

pub returns-clause-memory : goal.returns-clause-memory
returns-clause-memory g c = subst LacksRoom (sym c.negated.ensures) (lacks-negated c.is_there.result c.is_there.ensures.memory)
