use Rattle.std.proofs.Common.{rules}
use Rattle.plinq_ops.proofs.stage_state.pass.Goals as goal

pub returns-then-left-eq0-clause-passed : goal.returns-then-left-eq0-clause-passed
returns-then-left-eq0-clause-passed g c = search rules

pub returns-in-Ok-false-test-clause-passed : goal.returns-in-Ok-false-test-clause-passed
returns-in-Ok-false-test-clause-passed g c = search rules
