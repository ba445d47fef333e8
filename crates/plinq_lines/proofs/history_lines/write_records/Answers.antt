-- a record is written after those before it
use Rattle.std.proofs.lemmas.List.{at_drop_more}
use Rattle.plinq_lines.specs.HistoryText.{record_lines}
use Rattle.plinq_lines.proofs.PartWritten.{piece-failed, piece-written}
use Rattle.plinq_lines.proofs.history_lines.write_records.Goals as goal

pub returns-in_err-write_record : goal.returns-in_err-write_record
returns-in_err-write_record g c =
    piece-failed _ _ _ _ c.loop-record.invariant
    (at_drop_more record_lines c.args.records.now c.loop-record.record-index _ c.loop-record-test.true)
    c.from_residual.ensures.0 c.in_err-write_record.ensures

pub loop-record-preserved : goal.loop-record-preserved
loop-record-preserved g c =
    piece-written _ _ _ c.loop-record.invariant
    (at_drop_more record_lines c.args.records.now c.loop-record.record-index _ c.loop-record-test.true)
    c.in_ok-write_record.ensures
