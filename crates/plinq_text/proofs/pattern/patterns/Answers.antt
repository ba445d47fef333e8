use Rattle.std.proofs.Common.{map, take_all, ap, sym, subst, ◌∙◌}
use Rattle.plinq_text.specs.StepPatterns.{ArePatternsOf, pattern_of_step}
use Rattle.plinq_text.proofs.StepPatternLaws.{patterns-fit}
use Rattle.plinq_text.proofs.pattern.patterns.Goals as goal

pub returns : goal.returns
returns c =
    let all = c.loop-step.invariant ∙ ap (map pattern_of_step) (take_all c.loop-step.step-index c.args.steps.now c.loop-step-test.false) in
    subst (ArePatternsOf c.args.steps.now) (sym all) (patterns-fit c.args.steps.now)
