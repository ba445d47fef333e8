use Rattle.std.proofs.Common.{◌≡◌, ◌-◌}
use Rattle.plinq_text.specs.Fields.{from_word}
use Rattle.plinq_text.proofs.fields.from_word.Given as goal

abbrev pub invariant-loop-word : goal.invariant-loop-word
invariant-loop-word l = from_word l.index l.text ≡ from_word (l.index - l._word) l.rest
