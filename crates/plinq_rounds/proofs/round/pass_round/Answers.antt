use Rattle.std.proofs.Common.{◌≡◌, ◌++◌, option_map, ap, subst, ◌∙◌}
use Rattle.plinq_text.specs.Lines.{lines_of, written}
use Rattle.plinq_text.specs.Steps.{answer, answer_text}
use Rattle.plinq_text.proofs.LineLaws.{full-lines}
use Rattle.plinq_text.proofs.StepLaws.{full-answer}
use Rattle.plinq_rounds.specs.inner.Blocks.{PassesSteady}
use Rattle.plinq_rounds.proofs.PassLaws.{one-of-lines}
use Rattle.plinq_rounds.proofs.round.pass_round.Goals as goal

pub returns-clause-lines : goal.returns-clause-lines
returns-clause-lines g c =
    let steps = c.args.steps.now in
    let text = c.args.text.now in
    let lines = lines_of text in
    let mid = c.pass_steady.new.steps in
    let same : mid ≡ steps = subst (λ o. PassesSteady steps mid lines (option_map (λ v. v.items) o)) c.in_default.is c.in_ok-blocks.ensures.made in
    let full = full-answer steps lines (full-lines text c.requires.whole) in
    let made : c.pass_lines.new.out.items ≡ written (answer steps lines) =
    c.in_ok-bad.ensures.made ∙ ap (λ b. b ++ answer_text mid text) c.new-passed.ensures.items ∙ ap (λ ss. answer_text ss text) same in
    (one-of-lines c.in_ok-blocks-2.blocks.items c.pass_lines.new.out.items (answer steps lines) full c.in_ok-blocks-2.ensures.block made).1
