use Rattle.std.proofs.Common.{rules, ◌≡◌, ◌^◌, pos, ℕ, ◌+◌, ◌<◌, ◌%◌, w64, ◌+ℤ◌, to_z, of_z, is_ok, true, nat_lt, refl, sym, ap, suc, arith, drop}
use Rattle.std.proofs.Common.{◌∙◌, slice_index_or}
use Rattle.std.proofs.lemmas.Nat.{le_or_l, le_or_r}
use Rattle.plinq_lambda.specs.Formula.{fits}
use Rattle.plinq_lambda.specs.inner.Sums.{sums_fit}
use Rattle.plinq_lambda.proofs.Near.{near-bits, next-fits}
use Rattle.plinq_lambda.proofs.sums.are_near.Goals as goal

-- src/sums.rt:18:5
pub loop-at-preserved : goal.loop-at-preserved
loop-at-preserved c = λ few.
    let n : ℕ = c.cast_unsigned.result in
    let left = le_or_l c.loop-at.bits ((n + 2 ^ 62) % 2 ^ 64) in
    let right = le_or_r c.loop-at.bits ((n + 2 ^ 62) % 2 ^ 64) in
    let fit : is_ok (fits (to_z w64 n +ℤ c.args.c)) ≡ true =
    near-bits c.args.c n (nat_lt n (2 ^ 62)) refl c.cast_unsigned.type_inv (search rules) c.requires.from c.requires.to in
    let small : c.loop-at.bits < 2 ^ 63 = search rules in
    let so_far = c.loop-at.invariant small in
    let same : to_z w64 n ≡ slice_index_or c.args.block.now c.loop-at.at (pos 0) = search rules in
    let same_c : to_z w64 (of_z w64 c.args.c) ≡ c.args.c = search rules in
    let next = next-fits c.args.c c.args.block.now c.loop-at.at c.loop-at-test.true (rw (sym same) fit) in
    let one_more : suc c.loop-at.at ≡ c.loop-at.at + 1 = omega arith in
    so_far ∙ rw (same_c) (next ∙ ap (λ k. sums_fit c.args.c (drop k c.args.block.now)) one_more)
