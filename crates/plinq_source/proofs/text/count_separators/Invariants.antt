use Rattle.std.proofs.Common.{◌≡◌, drop}
use Rattle.plinq_source.specs.Text.{tokens}
use Rattle.plinq_source.proofs.text.count_separators.Given as goal

abbrev pub invariant-loop-n : goal.invariant-loop-n
invariant-loop-n l = tokens (drop l.n l.text) ≡ tokens l.text
