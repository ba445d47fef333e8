use Rattle.std.proofs.Common.{◌≡◌, ◌++◌, ◌∷◌, [], ap, sym, subst, ◌∙◌}
use Rattle.plinq_rounds.specs.inner.Blocks.{AreSteadyBlocks}
use Rattle.plinq_rounds.proofs.BlockLaws.{one-made}
use Rattle.plinq_rounds.proofs.making.make_here.Goals as goal

pub returns-in-Ok-push : goal.returns-in-Ok-push
returns-in-Ok-push c =
    let steps = c.args.steps.now in
    let text = c.args.text.now in
    let b = c.in-Some.block in
    let items : c.push.new.self.items ≡ b ∷ [] = c.in-Ok-push.ensures.items ∙ ap (λ xs. xs ++ b ∷ []) c.new-blocks.ensures.items in
    subst (AreSteadyBlocks steps text) (sym items) (one-made steps text b c.requires.whole (sym c.in-Some.is ∙ c.in-Ok.ensures))
