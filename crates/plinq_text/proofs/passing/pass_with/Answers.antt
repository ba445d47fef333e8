use Rattle.std.proofs.Common.{◌≡◌, ◌+◌, ◌++◌, if◌then◌else◌, Some, option_map, arith, append_assoc, append-nil, ap, sym, subst, ◌∙◌}
use Rattle.plinq_text.specs.StepPatterns.{ArePatternsOf}
use Rattle.plinq_text.specs.Lines.{Line, lines_of, written}
use Rattle.plinq_text.specs.inner.Bad.{or_now}
use Rattle.plinq_text.specs.Steps.{answer, bad_line, bytes_of, has_failed, left, row_after, row_does}
use Rattle.plinq_text.proofs.BadLaws.{bad-cons, bad-last, bad-nil, bad-on}
use Rattle.plinq_text.proofs.StepLaws.{answer-cons, answer-nil, left-cons, left-nil, written-cons}
use Rattle.plinq_text.proofs.passing.pass_with.Goals as goal

pub loop-line-preserved : goal.loop-line-preserved
loop-line-preserved c =
    let steps = c.loop-line.steps in
    let after = c.pass_line.new.steps in
    let out = c.loop-line.out.items in
    let text = c.in-Some.line.text.now in
    let end = c.in-Some.line.end.now in
    let rest = lines_of c.in-Some.line.rest.now in
    let later = written (answer after rest) in
    let later_is : written (answer (row_after steps text) rest) ≡ later = ap (λ ss. written (answer ss rest)) (sym c.in_ok-pass_line.ensures.after) in
    let line : Line = record { text = text; end = end } in
    record {
      made = c.loop-line.invariant.made
          ∙ ap (λ ls. out ++ written (answer steps ls)) c.in-Some.ensures.0
          ∙ ap (λ ls. out ++ written ls) (answer-cons steps line rest)
          ∙ ap (λ b. out ++ b) (written-cons (row_does steps text) line (answer (row_after steps text) rest))
          ∙ ap (λ b. out ++ (bytes_of (row_does steps text) end ++ b)) later_is
          ∙ sym (append_assoc out (bytes_of (row_does steps text) end) later)
          ∙ ap (λ b. b ++ later) (sym c.in_ok-pass_line.ensures.made);
      left = c.loop-line.invariant.left
          ∙ ap (left steps) c.in-Some.ensures.0
          ∙ left-cons steps line rest
          ∙ ap (λ ss. left ss rest) (sym c.in_ok-pass_line.ensures.after);
      bad = c.loop-line.invariant.bad
          ∙ ap (λ ls. or_now c.loop-line.bad (option_map (λ n. n + c.loop-line.count) (bad_line steps ls))) c.in-Some.ensures.0
          ∙ ap (λ o. or_now c.loop-line.bad (option_map (λ n. n + c.loop-line.count) o)) (bad-cons steps line rest
          ∙ ap (λ ss. if has_failed ss then Some 0 else option_map (λ n. n + 1) (bad_line ss rest)) (sym c.in_ok-pass_line.ensures.after))
          ∙ bad-on c.loop-line.bad c.loop-line.count (has_failed after) (bad_line after rest)
          ∙ ap (λ o. or_now o (option_map (λ n. n + (c.loop-line.count + 1)) (bad_line after rest))) (sym c.first_bad-bad.ensures);
      room = let shorter = c.in-Some.ensures.1 in let before = c.loop-line.invariant.room in omega (shorter, before, arith);
      searchers = subst (ArePatternsOf after) (sym c.pass_line.ensures.same) c.in_ok-pass_line.ensures.kept;
      same = c.pass_line.ensures.same ∙ c.loop-line.invariant.same;
    }

pub returns : goal.returns
returns c =
    let steps = c.loop-line.steps in
    let out = c.loop-line.out.items in
    let none = c.in_default.ensures in
    record {
      made = sym (c.loop-line.invariant.made ∙ ap (λ ls. out ++ written (answer steps ls)) none ∙ ap (λ ls. out ++ written ls) (answer-nil steps)
          ∙ append-nil out);
      left = sym (c.loop-line.invariant.left ∙ ap (left steps) none ∙ left-nil steps);
      bad = sym (c.loop-line.invariant.bad
          ∙ ap (λ ls. or_now c.loop-line.bad (option_map (λ n. n + c.loop-line.count) (bad_line steps ls))) none
          ∙ ap (λ o. or_now c.loop-line.bad (option_map (λ n. n + c.loop-line.count) o)) (bad-nil steps)
          ∙ bad-last c.loop-line.bad (λ n. n + c.loop-line.count));
      kept = subst (ArePatternsOf steps) c.loop-line.invariant.same c.loop-line.invariant.searchers;
    }
