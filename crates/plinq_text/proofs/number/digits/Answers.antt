use Rattle.std.proofs.Common.{◌+◌, Some, None, get_or, drop, ap, sym, ◌∙◌}
use Rattle.std.proofs.lemmas.List.{drop_all, drop_more}
use Rattle.plinq_text.specs.Numbers.{digits}
use Rattle.plinq_text.proofs.NumberLaws.{digits-cons, digits-nil}
use Rattle.plinq_text.proofs.number.digits.Goals as goal

pub loop-byte-preserved : goal.loop-byte-preserved
loop-byte-preserved c =
    let text = c.args.text.now in
    let i = c.loop-byte.byte-index in
    let n = c.loop-byte.value in
    c.loop-byte.invariant
    ∙ ap (digits n) (drop_more text i 0 c.loop-byte-test.true)
    ∙ digits-cons n (get_or text i 0) (drop (i + 1) text) (Some c.in_ok-value.value) (sym c.with_digit.ensures ∙ c.in_ok-value.was)

pub returns-in_err-value : goal.returns-in_err-value
returns-in_err-value c =
    let text = c.args.text.now in
    let i = c.loop-byte.byte-index in
    let n = c.loop-byte.value in
    c.from_residual.ensures ∙ sym (
    c.loop-byte.invariant
    ∙ ap (digits n) (drop_more text i 0 c.loop-byte-test.true)
    ∙ digits-cons n (get_or text i 0) (drop (i + 1) text) None (sym c.with_digit.ensures ∙ c.in_err-value.was))

pub returns : goal.returns
returns c =
    let n = c.loop-byte.value in
    sym (c.loop-byte.invariant ∙ ap (digits n) (drop_all c.loop-byte.byte-index c.args.text.now c.loop-byte-test.false) ∙ digits-nil n)
