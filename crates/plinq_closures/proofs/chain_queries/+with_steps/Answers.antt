-- The step just below the number is put on the query, and then those below it.
use Rattle.std.proofs.Common.{◌-◌, ◌++◌, [], ◌∷◌, arith, sym, ap, ◌∙◌, subst}
use Rattle.plinq_closures.specs.Steps.{over}
use Rattle.plinq_closures.specs.Laws.{step_meaning}
use Rattle.plinq_closures.specs.Steps.{Agrees}
use Rattle.plinq_closures.proofs.Put.{put_down}
use Rattle.plinq_closures.proofs.chain_queries.+with_steps.Goals as goal

pub returns-in-Ok-clause-ops : goal.returns-in-Ok-clause-ops
returns-in-Ok-clause-ops g t c m is =
    let steps = c.args.steps.now in
    let at = c.args.count - 1 in
    let l = c.step_of.result in
    let is_here = subst (λ s. Agrees (g.S.Steps.maps s) (g.S.Steps.tests s) m) (sym c.step_of.ensures.0) is in
    let same = step_meaning (g.S.Steps.maps l.steps.now) (g.S.Steps.tests l.steps.now) l.at l.one_map l.one_test m is_here ∙ ap m c.step_of.ensures.1 in
    let put = ap (λ q. q.ops) c.in-Ok.ensures ∙ ap (λ op. c.args.query.ops ++ op ∷ []) (c.with_lambda.ensures ∙ ap (λ k. over (λ _. l) k) c.kind.ensures) in
    put_down _ (g.S.Steps.kinds steps) m c.args.count at (omega (arith, c.if-count-eq0.false)) l same c.args.query.ops c.in-Ok.query.ops put
    c.with_steps.result (c.with_steps.ensures.ops m is)
