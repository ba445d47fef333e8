use Rattle.std.proofs.Common.{rules}
use Rattle.plinq_run.proofs.reporting.report.Goals as goal

pub returns-clause-reports : goal.returns-clause-reports
returns-clause-reports g c = search rules
