-- the records and the ending, one after another
use Rattle.std.proofs.Common.{refl}
use Rattle.plinq_lines.specs.HistoryText.{record_lines}
use Rattle.plinq_lines.specs.AnswerText.{line, ending_words}
use Rattle.plinq_lines.proofs.PartWritten.{none-written, piece-failed, piece-written, rest-writes}
use Rattle.plinq_lines.proofs.history_lines.write_history.Goals as goal

pub returns-in_err-write_records : goal.returns-in_err-write_records
returns-in_err-write_records g c =
    piece-failed _ _ (record_lines c.args.records.now) (line (ending_words c.args.ending)) (none-written _ _)
    refl c.from_residual.ensures.0 c.in_err-write_records.ensures

pub returns : goal.returns
returns g c =
    let end = line (ending_words c.args.ending) in
    rest-writes _ _ end (piece-written _ (record_lines c.args.records.now) end (none-written _ _) refl c.in_ok-write_records.ensures)
    refl c.write_ending.ensures
