-- An item passes where the filter leaves one.
use Rattle.std.specs.Prelude.{◌≡◌, [], ◌∷◌, ◌++◌, ℕ, Bool, Result}
use Rattle.std.proofs.Common.{subst, sym, ap, ◌∙◌}
use Rattle.plinq_ops.specs.declared.op.Op.TheVariants.{Filter}
use Rattle.plinq_closures.specs.Functions.{tests}
use Rattle.plinq_closures.specs.Steps.{over}
use Rattle.plinq_closures.proofs.chain.Chain.any_that.Goals as goal

pub returns-clause-answer : goal.returns-clause-answer
returns-clause-answer g c ops p does gives =
    let is = c.filter-chain.ensures in
    let same : c.filter-chain.result.steps.before.steps.now ≡ c.args.self.now.steps = ap (λ l. l.steps.now) is.0 ∙ c.lent.ensures in
    c.any.ensures.answer (ops ++ Filter (tests p) ∷ []) (record {
      before = ops;
      was = subst (λ s. g.S.Steps.does s ops) (sym same) does;
      does = p;
      gives = subst (λ b. (x : _) → goal.P-post g b x (p x)) (sym is.2) gives;
      all = ap (λ kind. ops ++ over (λ _. tests p) kind ∷ []) (sym is.1);
    })

pub any-requires-clause-in_one_way : goal.any-requires-clause-in_one_way
any-requires-clause-in_one_way g c _ _ =
    let is = c.filter-chain.ensures in
    let same : c.filter-chain.result.steps.before.steps.now ≡ c.args.self.now.steps = ap (λ l. l.steps.now) is.0 ∙ c.lent.ensures in (
      subst (λ b. (x : g.row.S-Item.Denot) (p q : goal.P-pre g b x) → p ≡ q) (sym is.2) c.requires.in_one_way.0,
      subst g.S.Steps.in_one_way (sym same) c.requires.in_one_way.1,
    )

pub any-requires-clause-gives : goal.any-requires-clause-gives
any-requires-clause-gives g c _ _ =
    let is = c.filter-chain.ensures in
    let same : c.filter-chain.result.steps.before.steps.now ≡ c.args.self.now.steps = ap (λ l. l.steps.now) is.0 ∙ c.lent.ensures in (
      subst (λ b. (x : g.row.S-Item.Denot) → (r : Result Bool ℕ) × goal.P-post g b x r) (sym is.2) c.requires.gives.0,
      subst g.S.Steps.gives (sym same) c.requires.gives.1,
    )
