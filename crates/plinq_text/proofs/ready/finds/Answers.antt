use Rattle.std.proofs.Common.{◌∙◌, ap, is_some}
use Rattle.memchr.proofs.lemmas.ValueLemmas.{FindsNeedle-value}
use Rattle.plinq_text.proofs.ready.finds.Goals as goal

pub returns : goal.returns
returns c = c.is_some.ensures ∙ ap is_some (FindsNeedle-value c.args.text.now c.args.finder.now _ c.find.ensures)
