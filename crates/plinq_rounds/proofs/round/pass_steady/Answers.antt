use Rattle.std.proofs.Common.{◌≡◌, true, false, List, take, drop, option_map, arith, ap, sym, subst, subst₂, ◌∙◌}
use Rattle.plinq_text.specs.declared.line_step.LineStep.{LineStep}
use Rattle.plinq_text.specs.Steady.{are_steady, has_check}
use Rattle.plinq_text.specs.StepPatterns.{ArePatternsOf}
use Rattle.plinq_text.proofs.SteadyLaws.{are_steady-take}
use Rattle.plinq_text.proofs.StepPatternLaws.{all-patterns, as-many, first-patterns, later-patterns}
use Rattle.plinq_rounds.proofs.BlockLaws.{parts-steady}
use Rattle.plinq_rounds.proofs.PassLaws.{still-ok}
use Rattle.plinq_rounds.proofs.round.pass_steady.Goals as goal

pub split_at-requires-2 : goal.split_at-requires-2
split_at-requires-2 g c =
    let enough = as-many c.args.steps.now c.args.patterns.now c.requires.patterns in omega (enough, c.steady-count.ensures.within, arith)

pub pass_parts-requires-clause-patterns : goal.pass_parts-requires-clause-patterns
pass_parts-requires-clause-patterns g c = λ κs here.
    subst₂ ArePatternsOf (sym c.split_at_mut-first.ensures.front) (sym c.split_at-2.ensures.front)
    (first-patterns c.steady-count.result c.args.steps.now c.args.patterns.now c.requires.patterns)

pub pass_parts-requires-clause-later : goal.pass_parts-requires-clause-later
pass_parts-requires-clause-later g c = λ κs here.
    subst₂ ArePatternsOf (sym c.split_at_mut-first.ensures.back) (sym c.split_at-2.ensures.back)
    (later-patterns c.steady-count.result c.args.steps.now c.args.patterns.now c.requires.patterns)

pub pass_parts-requires-clause-steady : goal.pass_parts-requires-clause-steady
pass_parts-requires-clause-steady g c = λ κs here.
    let steps = c.args.steps.now in
    ap are_steady (c.split_at_mut-first.ensures.front ∙ ap (λ n. take n steps) c.steady-count.ensures.steady) ∙ are_steady-take steps

pub returns-clause-made : goal.returns-clause-made
returns-clause-made g c =
    let steps = c.args.steps.now in
    let first = c.split_at_mut-first.result.0.now in
    let later = c.split_at_mut-first.result.1.now in
    let are : are_steady first ≡ true = ap are_steady (c.split_at_mut-first.ensures.front ∙ ap (λ n. take n steps) c.steady-count.ensures.steady)
    ∙ are_steady-take steps in
    let free : has_check later ≡ false =
    ap has_check (c.split_at_mut-first.ensures.back ∙ sym c.split_at.ensures.back) ∙ sym c.has_check.ensures ∙ c.if-has_check.false in
    still-ok c.pass_parts.result (λ made parts. parts-steady steps first later c.pass_parts.new.later c.args.text.now (option_map (λ v. v.items) made)
    c.split_at_mut-first.ensures.value are free parts) c.pass_parts.ensures.made

pub returns-clause-kept : goal.returns-clause-kept
returns-clause-kept g c =
    let n = c.steady-count.result in
    let patterns = c.args.patterns.now in
    let first = c.split_at_mut-first.result.0.now in
    let of_first = subst (λ (ss : List LineStep). ArePatternsOf ss (take n patterns)) (sym c.split_at_mut-first.ensures.front)
    (first-patterns n c.args.steps.now patterns c.requires.patterns) in
    still-ok c.pass_parts.result (λ _ later. all-patterns n first c.pass_parts.new.later patterns c.split_at_mut-first.ensures.front_len of_first
    (subst (ArePatternsOf c.pass_parts.new.later) {y = drop n patterns} c.split_at-2.ensures.back later)) c.pass_parts.ensures.kept
