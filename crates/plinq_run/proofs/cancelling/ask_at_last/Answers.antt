use Rattle.std.proofs.Common.{rules, ◌≡◌, true, false, Ok, Err, refl}
use Rattle.plinq_run.proofs.cancelling.ask_at_last.Goals as goal

pub returns-in_err-report-clause-asked : goal.returns-in_err-report-clause-asked
returns-in_err-report-clause-asked g c =
    let outcome : c.args.outcome ≡ Err c.in_err-report.field-0.0 = search rules in
    let is : c.from_residual.result ≡ Err c.in_err-report.field-0.0 = search rules in
    rw (c.if-with.false, outcome, is) (refl, refl)

pub returns-then-stops-clause-asked : goal.returns-then-stops-clause-asked
returns-then-stops-clause-asked g c =
    let outcome : c.args.outcome ≡ Ok c.in_ok-report.report = search rules in
    let stops : c.stops.result ≡ true = search rules in
    rw (c.if-with.false, outcome) (true, rw stops at c.stops.ensures.asked, refl)

pub returns-clause-asked : goal.returns-clause-asked
returns-clause-asked g c =
    let outcome : c.args.outcome ≡ Ok c.in_ok-report.report = search rules in
    let goes_on : c.stops.result ≡ false = search rules in
    rw (c.if-with.false, outcome) (false, rw goes_on at c.stops.ensures.asked, refl)
