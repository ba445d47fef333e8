use Rattle.std.proofs.Common.{◌-◌, length}
use Rattle.plinq_text.proofs.ready.+put_through.Given as goal

abbrev pub decreases-put_through : goal.decreases-put_through
decreases-put_through l = length l.steps.now - l.at
