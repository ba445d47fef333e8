use Rattle.std.proofs.Common.{not, ap, sym, ◌∙◌, length, le_refl, arith}
use Rattle.std.proofs.lemmas.List.Sums.{prefix_len_is}
use Rattle.plinq_text.specs.Fields.{is_blank}
use Rattle.plinq_text.proofs.fields.word_len.Goals as goal

pub returns-then-is_blank-clause-value : goal.returns-then-is_blank-clause-value
returns-then-is_blank-clause-value c =
    sym (prefix_len_is (λ b. not (is_blank b)) c.args.text.now c.loop-i.i 0 (omega arith) (λ k l. ap not (c.loop-i.invariant k l))
    (λ l. ap not (sym c.is_blank.ensures ∙ c.if-is_blank.true)))

pub returns-clause-value : goal.returns-clause-value
returns-clause-value c =
    sym (prefix_len_is (λ b. not (is_blank b)) c.args.text.now (length c.args.text.now) 0 (le_refl _) (λ k l. ap not (c.loop-i.invariant k (omega arith)))
    (λ l. absurd (omega arith)))
