use Rattle.std.proofs.Common.{sym, ◌∙◌, length, le_refl, arith}
use Rattle.std.proofs.lemmas.List.Sums.{prefix_len_is}
use Rattle.plinq_text.specs.Fields.{is_blank}
use Rattle.plinq_text.proofs.fields.blanks.Goals as goal

pub returns-then-not-is_blank-clause-value : goal.returns-then-not-is_blank-clause-value
returns-then-not-is_blank-clause-value c =
    sym (prefix_len_is is_blank c.args.text.now c.loop-i.i 0 (omega arith) c.loop-i.invariant (λ l. sym c.is_blank.ensures ∙ c.if-not-is_blank.true))

pub returns-clause-value : goal.returns-clause-value
returns-clause-value c =
    sym (prefix_len_is is_blank c.args.text.now (length c.args.text.now) 0 (le_refl _) (λ k l. c.loop-i.invariant k (omega arith))
    (λ l. absurd (omega arith)))
