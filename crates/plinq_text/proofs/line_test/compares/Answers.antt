use Rattle.std.proofs.Common.{◌∙◌, ap, is_some, sym}
use Rattle.memchr.proofs.lemmas.ValueLemmas.{FindsNeedle-value}
use Rattle.plinq_text.specs.Steps.{compares}
use Rattle.plinq_text.proofs.line_test.compares.Goals as goal

pub returns-in-Contains-clause-value : goal.returns-in-Contains-clause-value
returns-in-Contains-clause-value c =
    c.is_some.ensures ∙ ap is_some (FindsNeedle-value c.args.text.now c.args.wanted.now _ c.find.ensures)
    ∙ ap (λ k. compares k c.args.wanted.now c.args.text.now) (sym c.in-Contains.is)
