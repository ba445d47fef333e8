-- A token is no longer than its text.
use Rattle.std.proofs.Common.{arith}
use Rattle.plinq_source.proofs.Tokens.{length-token_ahead}
use Rattle.plinq_source.proofs.number.read_negative.Goals as goal

pub overflow_add-result : goal.overflow_add-result
overflow_add-result c = omega (arith, length-token_ahead c.args.digits.now, c.in-Some.ensures.length)
