use Rattle.std.proofs.Common.{◌≡◌, ◌<◌, ◌^◌, drop}
use Rattle.plinq_lambda.specs.inner.Sums.{sums_fit}
use Rattle.plinq_lambda.proofs.sums.are_near.Given as goal

-- where the bits so far are few, all sums fit if those from here on do
abbrev pub invariant-loop-at : goal.invariant-loop-at
invariant-loop-at l = l.bits < 2 ^ 63 → sums_fit l.c l.block ≡ sums_fit l.c (drop l.at l.block)
