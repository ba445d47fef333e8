use Rattle.plinq_source.specs.Walked.{range_whole}
use Rattle.plinq_source.proofs.Filling.{IsFilled}
use Rattle.plinq_source.proofs.range.RangeSourceSource.fill.Given as goal

abbrev pub invariant-loop-place : goal.invariant-loop-place
invariant-loop-place l = IsFilled (range_whole l.initial.self) l.initial.self.next l.place l.fn.items l.list
