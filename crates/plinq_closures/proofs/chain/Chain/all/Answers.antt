-- All pass where nothing is left of those after the first that fails.
use Rattle.std.specs.Prelude.{◌≡◌, pos, [], ◌∷◌, ◌++◌, ℕ, Bool, Result}
use Rattle.std.proofs.Common.{subst, sym, ap, ◌∙◌}
use Rattle.plinq_ops.specs.declared.op.Op.TheVariants.{Take, SkipWhile}
use Rattle.plinq_ops.specs.Sequential.{answer_of}
use Rattle.plinq_collect.specs.ItemFoldings.{has_none}
use Rattle.plinq_closures.specs.Asked.{Tells}
use Rattle.plinq_closures.specs.Functions.{tests}
use Rattle.plinq_closures.specs.Steps.{over}
use Rattle.plinq_closures.proofs.Asked.{tells-none}
use Rattle.plinq_closures.proofs.chain.Chain.all.Goals as goal

pub returns-clause-answer : goal.returns-clause-answer
returns-clause-answer g c ops p does gives =
    let steps = ops ++ SkipWhile (tests p) ∷ [] in
    let u = answer_of (λ f. f) (steps ++ Take (pos 1) ∷ []) (g.Src.Source.whole c.args.source) in
    let is = c.skip_while-chain.ensures in
    let same : c.skip_while-chain.result.steps.before.steps.now ≡ c.args.self.now.steps = ap (λ l. l.steps.now) is.0 ∙ c.lent.ensures in
    subst (λ r. Tells c.args.workers has_none u r) (sym c.negated.ensures)
    (tells-none c.args.workers u c.any.result (c.any.ensures.answer steps (record {
      before = ops;
      was = subst (λ s. g.S.Steps.does s ops) (sym same) does;
      does = p;
      gives = subst (λ b. (x : _) → goal.P-post g b x (p x)) (sym is.2) gives;
      all = ap (λ kind. ops ++ over (λ _. tests p) kind ∷ []) (sym is.1);
    })))

pub any-requires-clause-in_one_way : goal.any-requires-clause-in_one_way
any-requires-clause-in_one_way g c _ _ =
    let is = c.skip_while-chain.ensures in
    let same : c.skip_while-chain.result.steps.before.steps.now ≡ c.args.self.now.steps = ap (λ l. l.steps.now) is.0 ∙ c.lent.ensures in (
      subst (λ b. (x : g.row.S-Item.Denot) (p q : goal.P-pre g b x) → p ≡ q) (sym is.2) c.requires.in_one_way.0,
      subst g.S.Steps.in_one_way (sym same) c.requires.in_one_way.1,
    )

pub any-requires-clause-gives : goal.any-requires-clause-gives
any-requires-clause-gives g c _ _ =
    let is = c.skip_while-chain.ensures in
    let same : c.skip_while-chain.result.steps.before.steps.now ≡ c.args.self.now.steps = ap (λ l. l.steps.now) is.0 ∙ c.lent.ensures in (
      subst (λ b. (x : g.row.S-Item.Denot) → (r : Result Bool ℕ) × goal.P-post g b x r) (sym is.2) c.requires.gives.0,
      subst g.S.Steps.gives (sym same) c.requires.gives.1,
    )
