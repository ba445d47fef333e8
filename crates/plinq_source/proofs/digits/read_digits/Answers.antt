-- One digit more.
use Rattle.std.proofs.Common.{arith}
use Rattle.plinq_source.proofs.Numerals.{ReadsDigits_more}
use Rattle.plinq_source.proofs.digits.read_digits.Goals as goal

pub loop-n-preserved : goal.loop-n-preserved
loop-n-preserved c =
    ReadsDigits_more c.args.text.now c.loop-n.n c.loop-n.value c.saturating_add-value.result c.loop-n-test.true (omega arith) (omega arith)
    (omega arith) c.loop-n.invariant
