-- the digits, and before them the sign of a number below zero
use Rattle.std.proofs.Common.{◌≡◌, ◌+◌, ◌-◌, ◌++◌, drop, ap, arith, rules, to_z-of_z}
use Rattle.std.proofs.lemmas.Fmt.{length-decimal-le}
use Rattle.std.proofs.lemmas.List.{drop-set}
use Rattle.itoa.proofs.Decimal.{minus_first}
use Rattle.plinq_lines.proofs.placing.place_number.Goals as goal

pub write_digits-start-requires : goal.write_digits-start-requires
write_digits-start-requires c = (omega (arith, length-decimal-le 19 c.unsigned_abs.result (omega arith) (omega arith) (omega arith)), search rules)

pub returns-then-x-ge0-clause-short : goal.returns-then-x-ge0-clause-short
returns-then-x-ge0-clause-short c = omega (arith, length-decimal-le 19 c.unsigned_abs.result (omega arith) (omega arith) (omega arith))

pub overflow_sub-text : goal.overflow_sub-text
overflow_sub-text c = omega (arith, length-decimal-le 19 c.unsigned_abs.result (omega arith) (omega arith) (omega arith))

pub overflow_sub-result : goal.overflow_sub-result
overflow_sub-result c = omega (arith, length-decimal-le 19 c.unsigned_abs.result (omega arith) (omega arith) (omega arith))

pub returns-clause-short : goal.returns-clause-short
returns-clause-short c = omega (arith, length-decimal-le 19 c.unsigned_abs.result (omega arith) (omega arith) (omega arith))

pub returns-clause-placed : goal.returns-clause-placed
returns-clause-placed c =
    let start = c.write_digits-start.result in
    let there : start - 1 + 1 ≡ start = omega (arith, length-decimal-le 19 c.unsigned_abs.result (omega arith) (omega arith) (omega arith)) in
    let back = to_z-of_z c.ranges.x in
    let sign = minus_first c.args.x (rw back at c.if-x-ge0.false) in
    rw (drop-set c.write_digits-start.new.buf (start - 1) 45 (omega arith), there, c.write_digits-start.ensures.written, c.unsigned_abs.ensures.value, back)
    (ap (λ digits. digits ++ drop c.args.end c.args.text.now) sign)
