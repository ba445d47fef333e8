-- What the lambda does to a record.
use Rattle.std.specs.Prelude.{◌-◌, nat_le, if◌then◌else◌, Ok, Err}
use Rattle.plinq_lambda.specs.Meaning.{Meaning}
use Rattle.plinq_log_example.specs.declared.record.Record.{Record}
use Rattle.plinq_log_example.specs.declared.errors.Errors.{Errors}

-- the record with its time since the start, where it isn't before that; whether it is an error; nothing expands
abbrev pub errors_meaning : Errors → Meaning Record
errors_meaning errors = record {
  map = λ r. if nat_le errors.start.millis r.millis then Ok (record r { millis = r.millis - errors.start.millis }) else Err 1;
  test = λ r. Ok (nat_le r.severity 3);
  expand = λ r. Err 2;
}
