use Rattle.std.proofs.Common.{rules, arith, ◌<◌, length, All, subst₂, ◌++◌, ◌∷◌, [], take, take_all, ap, sym, subst, ◌∙◌}
use Rattle.std.proofs.lemmas.List.{take_more}
use Rattle.std.proofs.lemmas.List.Elements.{All-push}
use Rattle.plinq_text.specs.inner.Ready.{IsReady, row_ready}
use Rattle.plinq_text.specs.StepPatterns.{IsPatternOf}
use Rattle.plinq_text.specs.Steady.{is_steady, row_steady}
use Rattle.plinq_text.proofs.StepPatternLaws.{as-many, own-pattern}
use Rattle.plinq_text.proofs.SteadyLaws.{own-steady, row_nil, rows-agree}
use Rattle.plinq_text.proofs.ready.ready.Goals as goal

pub loop-i-init : goal.loop-i-init
loop-i-init c = record {
  same = λ text. ap (λ xs. row_ready xs text) c.new-made.ensures.items ∙ row_nil text;
  ready = search rules;
}

pub loop-i-preserved : goal.loop-i-preserved
loop-i-preserved c =
    let steps = c.args.steps.now in
    let i = c.loop-i.i in
    let step = c.index-steps-i.result in
    let more = take_more steps i step c.loop-i-test.true in
    let made = c.loop-i.made.items in
    let agree = rows-agree made (take i steps) c.in_ok-ready_step.field-0 step c.loop-i.invariant.same c.in_ok-ready_step.ensures.same in
    record {
      same = λ text. ap (λ xs. row_ready xs text) c.in_ok-push.ensures.items
          ∙ agree text
          ∙ ap (λ s. row_steady (take i steps ++ s ∷ []) text) c.index-steps-i.is
          ∙ ap (λ xs. row_steady xs text) (sym more);
      ready = subst (All IsReady) (sym c.in_ok-push.ensures.items) (All-push IsReady made _ c.loop-i.invariant.ready c.in_ok-ready_step.ensures.ready);
    }

pub offset_bounds-patterns-i : goal.offset_bounds-patterns-i
offset_bounds-patterns-i c =
    let enough = as-many c.args.steps.now c.args.patterns.now c.requires.patterns in
    let within : c.loop-i.i < length c.args.patterns.now = omega (enough, c.loop-i-test.true, arith) in
    search (rules, within)

pub bounds-patterns-i : goal.bounds-patterns-i
bounds-patterns-i c = let enough = as-many c.args.steps.now c.args.patterns.now c.requires.patterns in omega (enough, c.loop-i-test.true, arith)

pub ready_step-requires-clause-pattern : goal.ready_step-requires-clause-pattern
ready_step-requires-clause-pattern c =
    subst₂ IsPatternOf (sym c.index-steps-i.is) (sym c.index-patterns-i.is)
    (own-pattern c.args.steps.now c.args.patterns.now c.loop-i.i _ _ c.requires.patterns c.loop-i-test.true)

pub ready_step-requires-clause-steady : goal.ready_step-requires-clause-steady
ready_step-requires-clause-steady c =
    ap is_steady c.index-steps-i.is ∙ own-steady c.args.steps.now c.loop-i.i _ c.requires.steady c.loop-i-test.true

pub returns-clause-same : goal.returns-clause-same
returns-clause-same c = λ text. c.loop-i.invariant.same text ∙ ap (λ xs. row_steady xs text) (take_all c.loop-i.i c.args.steps.now c.loop-i-test.false)
