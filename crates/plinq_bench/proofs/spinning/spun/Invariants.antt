use Rattle.std.proofs.Common.{◌≡◌}
use Rattle.plinq_bench.specs.Spinning.{spun}
use Rattle.plinq_bench.proofs.spinning.spun.Given as goal

abbrev pub invariant-loop-i : goal.invariant-loop-i
invariant-loop-i l = l.h ≡ spun l.start l.i
