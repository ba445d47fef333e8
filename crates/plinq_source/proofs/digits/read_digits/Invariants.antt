use Rattle.plinq_source.proofs.Numerals.{ReadsDigits}
use Rattle.plinq_source.proofs.digits.read_digits.Given as goal

abbrev pub invariant-loop-n : goal.invariant-loop-n
invariant-loop-n l = ReadsDigits l.text l.n l.value
