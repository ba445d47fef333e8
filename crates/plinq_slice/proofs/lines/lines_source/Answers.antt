-- The list of the lines is all that the source gives.
use Rattle.std.proofs.Common.{rules, refl, sym, subst}
use Rattle.plinq_slice.specs.Lines.{IsOfLines}
use Rattle.plinq_slice.proofs.lines.lines_source.Goals as goal

pub returns-in-Ok-clause-whole : goal.returns-in-Ok-clause-whole
returns-in-Ok-clause-whole c = subst (IsOfLines c.args.text.now) (sym c.in-Ok.ensures.whole) (record { items = search rules; ending = refl })
