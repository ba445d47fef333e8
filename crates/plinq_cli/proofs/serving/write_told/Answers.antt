-- the value's line, and the line of the ending after it
use Rattle.std.proofs.Common.{◌≡◌, ◌++◌, Some, refl}
use Rattle.plinq_lines.specs.AggregateText.{told_value, value_line}
use Rattle.plinq_lines.proofs.WrittenBytes.{begins-append, writes-after, writes-as, writes-at_err}
use Rattle.plinq_source.specs.declared.ending.Ending.TheVariants.{End}
use Rattle.plinq_cli.specs.Told.{last_line}
use Rattle.plinq_cli.proofs.serving.write_told.Goals as goal

pub returns-in_err-write_value-in-End : goal.returns-in_err-write_value-in-End
returns-in_err-write_value-in-End g c =
    rw c.in-End.is
    (writes-at_err _ _ _ _ c.from_residual.ensures.0
    (begins-append _ _ (value_line c.args.value) (last_line c.args.plain (Some End)) c.in_err-write_value-in-End.ensures))

pub returns-in_ok-write_value-in-End : goal.returns-in_ok-write_value-in-End
returns-in_ok-write_value-in-End g c =
    let last = last_line c.args.plain (Some c.args.ending) in
    let same : (value_line c.args.value ++ last) ≡ (told_value c.args.value (Some c.args.ending) ++ last) = rw c.in-End.is refl in
    writes-as _ _ _ _ _ same (writes-after _ _ _ _ (value_line c.args.value) last c.in_ok-write_value-in-End.ensures c.write_last.ensures)
