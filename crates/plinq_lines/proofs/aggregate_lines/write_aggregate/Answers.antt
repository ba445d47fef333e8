-- the value's line, and the line of the ending after it
use Rattle.std.proofs.Common.{codes, refl}
use Rattle.plinq_lines.specs.AggregateText.{value_line}
use Rattle.plinq_lines.specs.AnswerText.{line, ending_words}
use Rattle.plinq_lines.proofs.PartWritten.{none-written, piece-failed, piece-written, rest-writes}
use Rattle.plinq_lines.proofs.aggregate_lines.write_aggregate.Goals as goal

pub returns-in_err-write_value-in-End : goal.returns-in_err-write_value-in-End
returns-in_err-write_value-in-End g c =
    rw c.in-End.is
    (piece-failed _ _ (value_line c.args.value) (line (codes "end")) (none-written _ _) refl c.from_residual.ensures.0 c.in_err-write_value-in-End.ensures)

pub returns-in_ok-write_value-in-End : goal.returns-in_ok-write_value-in-End
returns-in_ok-write_value-in-End g c =
    let end = line (ending_words c.args.ending) in
    rest-writes _ _ end
    (piece-written _ (value_line c.args.value) end (none-written _ _) (rw c.in-End.is refl) c.in_ok-write_value-in-End.ensures) refl c.write_ending.ensures
