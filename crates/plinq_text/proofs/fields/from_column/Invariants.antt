use Rattle.std.proofs.Common.{◌≡◌, ◌-◌}
use Rattle.plinq_text.specs.Fields.{from_column}
use Rattle.plinq_text.proofs.fields.from_column.Given as goal

abbrev pub invariant-loop-column : goal.invariant-loop-column
invariant-loop-column l = from_column l.byte l.index l.text ≡ from_column l.byte (l.index - l._column) l.rest
