-- One token is read, or refused where it stands.
use Rattle.std.proofs.Common.{◌≡◌, ◌-◌, ℤ, [], length, Some, w64, to_z, of_z, arith, sym, ap, ◌∙◌}
use Rattle.std.proofs.lemmas.Int.{ints}
use Rattle.plinq_source.specs.Trace.{step_of, list_ending}
use Rattle.plinq_source.specs.Text.{tokens, values, refusal}
use Rattle.plinq_source.specs.declared.step.Step.TheVariants.{Item}
use Rattle.plinq_source.proofs.Tokens.{length-token_ahead}
use Rattle.plinq_source.proofs.Reading.{standing, unmoved, reads_value, refuses, left_more, given_more, step_at-left, step_at-none, given-none}
use Rattle.plinq_source.proofs.text.TextSourceSource.next.Goals as goal

pub overflow_add-self-in-Ok : goal.overflow_add-self-in-Ok
overflow_add-self-in-Ok c = omega (arith, length-token_ahead c.split_at-2.result.1.now, c.in-Ok.ensures.length)

pub invariant_of-self-in-Ok-clause-few : goal.invariant_of-self-in-Ok-clause-few
invariant_of-self-in-Ok-clause-few c = c.args.self.now.few

pub invariant_of-self-in-Ok-clause-within : goal.invariant_of-self-in-Ok-clause-within
invariant_of-self-in-Ok-clause-within c = omega (arith, length-token_ahead c.split_at-2.result.1.now, c.in-Ok.ensures.length)

pub invariant_of-self-in-Ok-clause-items : goal.invariant_of-self-in-Ok-clause-items
invariant_of-self-in-Ok-clause-items c =
    let s = c.args.self.now in
    let ahead =
    standing _ _ _ _ _ _ c.as_slice.ensures.value c.split_at.ensures.back c.split_at-2.ensures.back c.count_separators-blank.ensures.same
    c.count_separators-blank.ensures.ahead c.if-is_empty.ensures in
    let read = reads_value _ _ _ _ _ _ _ ahead c.in-Ok.ensures.length c.in-Ok.ensures.value in
    left_more _ _ _ _ s.items read.items

pub invariant_of-self-in-Ok-clause-ending : goal.invariant_of-self-in-Ok-clause-ending
invariant_of-self-in-Ok-clause-ending c =
    let s = c.args.self.now in
    let ahead =
    standing _ _ _ _ _ _ c.as_slice.ensures.value c.split_at.ensures.back c.split_at-2.ensures.back c.count_separators-blank.ensures.same
    c.count_separators-blank.ensures.ahead c.if-is_empty.ensures in
    let read = reads_value _ _ _ _ _ _ _ ahead c.in-Ok.ensures.length c.in-Ok.ensures.value in
    s.ending ∙ read.ending

pub returns-in-Ok-clause-step : goal.returns-in-Ok-clause-step
returns-in-Ok-clause-step c =
    let s = c.args.self.now in
    let ahead =
    standing _ _ _ _ _ _ c.as_slice.ensures.value c.split_at.ensures.back c.split_at-2.ensures.back c.count_separators-blank.ensures.same
    c.count_separators-blank.ensures.ahead c.if-is_empty.ensures in
    let read = reads_value _ _ _ _ _ _ _ ahead c.in-Ok.ensures.length c.in-Ok.ensures.value in
    let same : to_z w64 (of_z w64 c.in-Ok.number.value) ≡ c.in-Ok.number.value = omega (arith, ints) in
    ap Item same ∙ sym (step_at-left _ _ _ _ (list_ending (refusal (tokens s.text.items))) s.items read.items)

pub returns-in-Ok-clause-moved : goal.returns-in-Ok-clause-moved
returns-in-Ok-clause-moved c =
    let s = c.args.self.now in
    let ahead =
    standing _ _ _ _ _ _ c.as_slice.ensures.value c.split_at.ensures.back c.split_at-2.ensures.back c.count_separators-blank.ensures.same
    c.count_separators-blank.ensures.ahead c.if-is_empty.ensures in
    let read = reads_value _ _ _ _ _ _ _ ahead c.in-Ok.ensures.length c.in-Ok.ensures.value in
    given_more _ _ _ _ (list_ending (refusal (tokens s.text.items))) s.items read.items

pub returns-in-Err-clause-step : goal.returns-in-Err-clause-step
returns-in-Err-clause-step c =
    let s = c.args.self.now in
    let ahead =
    standing _ _ _ _ _ _ c.as_slice.ensures.value c.split_at.ensures.back c.split_at-2.ensures.back c.count_separators-blank.ensures.same
    c.count_separators-blank.ensures.ahead c.if-is_empty.ensures in
    let refused = refuses _ _ _ _ _ _ ahead c.in-Err.ensures.value in
    sym (step_at-none _ _ (list_ending (refusal (tokens s.text.items))) s.items refused.items
    ∙ ap (λ r. step_of {T = ℤ} [] (Some (list_ending r))) (s.ending ∙ refused.ending))

pub returns-in-Err-clause-moved : goal.returns-in-Err-clause-moved
returns-in-Err-clause-moved c =
    let s = c.args.self.now in
    let ahead =
    standing _ _ _ _ _ _ c.as_slice.ensures.value c.split_at.ensures.back c.split_at-2.ensures.back c.count_separators-blank.ensures.same
    c.count_separators-blank.ensures.ahead c.if-is_empty.ensures in
    let refused = refuses _ _ _ _ _ _ ahead c.in-Err.ensures.value in
    ap (λ ts. length (values (tokens s.text.items)) - length (values ts)) (unmoved _ _ _ _ _ ahead)
    ∙ given-none _ _ (list_ending (refusal (tokens s.text.items))) refused.items
