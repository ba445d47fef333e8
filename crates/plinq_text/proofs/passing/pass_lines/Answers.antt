use Rattle.std.proofs.Common.{sym, subst, ◌∙◌}
use Rattle.plinq_text.specs.StepPatterns.{ArePatternsOf}
use Rattle.plinq_text.proofs.passing.pass_lines.Goals as goal

pub pass_with-requires : goal.pass_with-requires
pass_with-requires c = subst (ArePatternsOf c.args.steps.now) (sym (c.as_mut_slice.ensures.value ∙ c.in_ok-searchers.ensures)) c.requires
