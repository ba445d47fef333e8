use Rattle.std.proofs.Common.{◌≡◌, take, drop, length, true}
use Rattle.plinq_lambda.specs.Formula.{formula_meaning}
use Rattle.plinq_lambda.specs.inner.Sums.{sums_fit}
use Rattle.plinq_lambda.specs.declared.formula.Formula.TheVariants.{Add}
use Rattle.plinq_lambda.proofs.SoFar.{IsMappedSoFar}
use Rattle.plinq_lambda.proofs.sums.add_each.Given as goal

-- the numbers before this one are sums, the others as they were
abbrev pub invariant-loop-item : goal.invariant-loop-item
invariant-loop-item l =
    IsMappedSoFar (formula_meaning (Add l.c)).map l.fn.block (take l.item-index l.block) (drop l.item-index l.fn.block)
    × (drop l.item-index l.block ≡ drop l.item-index l.fn.block)
    × (length l.block ≡ length l.fn.block)
    × (sums_fit l.c (drop l.item-index l.fn.block) ≡ true)
