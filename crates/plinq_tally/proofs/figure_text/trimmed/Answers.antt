use Rattle.std.proofs.Common.{◌∷◌, [], ◌++◌, ap, sym, ◌∙◌}
use Rattle.std.proofs.lemmas.Bool.{ne_eqb}
use Rattle.plinq_tally.specs.FigureText.{trimmed}
use Rattle.plinq_tally.proofs.FigureLaws.{trimmed-kept, trimmed-zero}
use Rattle.plinq_tally.proofs.figure_text.trimmed.Goals as goal

pub returns-then-last-ne48 : goal.returns-then-last-ne48
returns-then-last-ne48 c =
    c.in-Some.ensures.cases.0 ∙ sym (c.loop-last.invariant ∙ ap trimmed c.in-Some.ensures.cases.0
    ∙ trimmed-kept c.in-Some.before.now c.in-Some.last.now (ne_eqb c.in-Some.last.now 48 c.if-last-ne48.true))

pub loop-last-preserved : goal.loop-last-preserved
loop-last-preserved c =
    c.loop-last.invariant
    ∙ ap trimmed (c.in-Some.ensures.cases.0 ∙ ap (λ d. c.in-Some.before.now ++ d ∷ []) c.if-last-ne48.false)
    ∙ trimmed-zero c.in-Some.before.now
