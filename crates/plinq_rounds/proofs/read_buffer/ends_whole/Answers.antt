use Rattle.std.proofs.Common.{ap, sym, ◌∙◌}
use Rattle.std.proofs.lemmas.List.{nil_from_length}
use Rattle.plinq_text.specs.Lines.{is_whole}
use Rattle.plinq_text.proofs.LineLaws.{whole-nil}
use Rattle.plinq_rounds.proofs.TallyingLaws.{whole-last}
use Rattle.plinq_rounds.proofs.read_buffer.ends_whole.Goals as goal

pub returns-in-Some : goal.returns-in-Some
returns-in-Some c = sym (ap is_whole c.in-Some.ensures.cases.0 ∙ whole-last c.in-Some.field-0-1.now c.in-Some.last.now)

pub returns-in-None : goal.returns-in-None
returns-in-None c = sym (ap is_whole (nil_from_length c.args.text.now c.in-None.ensures.cases) ∙ whole-nil)
