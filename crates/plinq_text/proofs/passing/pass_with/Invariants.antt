use Rattle.std.proofs.Common.{◌≡◌, ◌≤◌, ◌+◌, ◌++◌, length, option_map}
use Rattle.plinq_text.specs.StepPatterns.{ArePatternsOf}
use Rattle.plinq_text.specs.inner.Bad.{or_now}
use Rattle.plinq_text.specs.Lines.{lines_of, written}
use Rattle.plinq_text.specs.Steps.{answer, answer_text, bad_line, left}
use Rattle.plinq_text.proofs.passing.pass_with.Given as goal

abbrev pub invariant-loop-line : goal.invariant-loop-line
invariant-loop-line l = record {
  made : l.fn.out.items ++ answer_text l.fn.steps l.text ≡ l.out.items ++ written (answer l.steps (lines_of l.rest));
  left : left l.fn.steps (lines_of l.text) ≡ left l.steps (lines_of l.rest);
  searchers : ArePatternsOf l.steps l.searchers;
  bad : bad_line l.fn.steps (lines_of l.text) ≡ or_now l.bad (option_map (λ n. n + l.count) (bad_line l.steps (lines_of l.rest)));
  room : l.count + length l.rest ≤ length l.text;
  same : l.searchers ≡ l.fn.searchers;
}

abbrev pub decreases-loop-line : goal.decreases-loop-line
decreases-loop-line l = length l.rest
