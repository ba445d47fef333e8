use Rattle.std.proofs.Common.{◌≡◌, ◌++◌, take}
use Rattle.plinq_tally.specs.Tallies.{tally_text}
use Rattle.plinq_tally.proofs.tally.Tally.put_lines.Given as goal

abbrev pub invariant-loop-i : goal.invariant-loop-i
invariant-loop-i l = l.out.items ≡ l.fn.out.items ++ tally_text (take l.i l.self)
