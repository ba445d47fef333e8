-- So far 1 to i, in the block that was taken for all n.
use Rattle.std.proofs.Common.{◌≡◌, ◌≤◌, vec_len}
use Rattle.std.specs.Vec.{vec_capacity}
use Rattle.plinq_lambda.specs.Formula.{numbers_up_to}
use Rattle.plinq_lambda.proofs.formula.numbers_up_to.Given as goal

abbrev pub invariant-loop-i : goal.invariant-loop-i
invariant-loop-i l = record {
  counted : l.numbers.items ≡ numbers_up_to l.i;
  length : vec_len l.numbers ≡ l.i;
  room : l.n ≤ vec_capacity l.numbers;
}
