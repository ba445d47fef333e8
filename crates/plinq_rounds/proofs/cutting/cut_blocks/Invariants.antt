use Rattle.std.proofs.Common.{◌-◌, ◌≤◌, ◌++◌, List, length}
use Rattle.plinq_rounds.specs.declared.block.Span.{Span}
use Rattle.plinq_rounds.specs.inner.Blocks.{IsCutFrom}
use Rattle.plinq_rounds.proofs.cutting.cut_blocks.Given as goal

abbrev pub invariant-loop-start : goal.invariant-loop-start
invariant-loop-start l = record {
  within : l.start ≤ length l.text;
  cut : (more : List Span) → IsCutFrom l.text l.start more → IsCutFrom l.text 0 (l.spans.items ++ more);
}

abbrev pub decreases-loop-start : goal.decreases-loop-start
decreases-loop-start l = length l.text - l.start
