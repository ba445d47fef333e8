-- The later of two records.
use Rattle.std.specs.Prelude.{nat_lt, if◌then◌else◌}
use Rattle.std.proofs.Common.{arith}
use Rattle.plinq_aggregate.specs.Folding.{IsFolding}
use Rattle.plinq_aggregate.specs.Numbers.{picking}
use Rattle.plinq_aggregate.specs.Lawful.{picking-lawful}
use Rattle.plinq_log_example.specs.declared.record.Record.{Record}

-- the one with the greater time, and of two with the same the second
abbrev pub later_record : Record → Record → Record
later_record a b = if nat_lt b.millis a.millis then a else b

pub later_record-lawful : IsFolding (picking later_record)
later_record-lawful = picking-lawful later_record (λ a b c. grind arith)
