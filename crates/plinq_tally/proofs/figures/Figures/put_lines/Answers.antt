use Rattle.std.proofs.Common.{List, ℕ, [], ◌++◌, ◌<◌, length, append_assoc, pos, take, subst, ap, sym, ◌∙◌}
use Rattle.plinq_tally.specs.declared.figure.Figure.{Figure}
use Rattle.plinq_tally.specs.Figures.{first_figure}
use Rattle.plinq_tally.specs.FigureText.{figure_line, figures_text}
use Rattle.plinq_tally.proofs.FigureLaws.{figures-more}
use Rattle.plinq_tally.proofs.TallyLaws.{is-there}
use Rattle.plinq_tally.proofs.figures.Figures.put_lines.Goals.{in-Some+in_ok-put_figure, in_default}
use Rattle.plinq_tally.proofs.figures.Figures.put_lines.Goals as goal

pub loop-i-preserved : goal.loop-i-preserved
loop-i-preserved c =
    let told = c.args.told in
    let gs = c.args.self.now.1 in
    let i = c.loop-i.i in
    let out = c.args.out.now.items in
    let within : i < length gs = subst (λ n. i < n) c.len-i-end.ensures c.loop-i-test.true in
    elim c.match-get.branch [
      | in-Some+in_ok-put_figure w ↦
          let g : List ℕ × Figure = (w.in-Some.key.now, w.in-Some.figure) in
          ap (λ v. v.items) w.out-is
          ∙ w.in_ok-put_figure.ensures
          ∙ ap (λ b. b ++ figure_line told g) c.loop-i.invariant
          ∙ append_assoc out (figures_text told (take i gs)) (figure_line told g)
          ∙ ap (λ b. out ++ b) (sym (figures-more told gs i g (sym w.in-Some.ensures)))
      | in_default w ↦ is-there gs i ([], first_figure (pos 0)) within (sym w.in_default.ensures)
    ]
