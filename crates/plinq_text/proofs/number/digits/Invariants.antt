use Rattle.std.proofs.Common.{◌≡◌, drop}
use Rattle.plinq_text.specs.Numbers.{digits}
use Rattle.plinq_text.proofs.number.digits.Given as goal

abbrev pub invariant-loop-byte : goal.invariant-loop-byte
invariant-loop-byte l = digits 0 l.text ≡ digits l.value (drop l.byte-index l.text)
