use Rattle.std.proofs.Common.{◌≡◌, take}
use Rattle.plinq_tally.specs.Tallies.{total}
use Rattle.plinq_tally.proofs.tally.Tally.total.Given as goal

abbrev pub invariant-loop-i : goal.invariant-loop-i
invariant-loop-i l = l.total ≡ total (take l.i l.self)
