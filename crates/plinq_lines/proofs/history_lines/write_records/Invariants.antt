use Rattle.std.proofs.Common.{drop}
use Rattle.plinq_lines.specs.HistoryText.{record_lines}
use Rattle.plinq_lines.proofs.PartWritten.{PartWritten}
use Rattle.plinq_lines.proofs.history_lines.write_records.Given as goal

abbrev pub invariant-loop-record : goal.invariant-loop-record
invariant-loop-record g l =
    PartWritten (g.W.Write.contents l.initial.writer) (g.W.Write.contents l.writer) (record_lines (drop l.record-index l.records)) (record_lines l.records)
