use Rattle.plinq_source.specs.Walked.{repeat_whole}
use Rattle.plinq_source.proofs.Filling.{IsFilled}
use Rattle.plinq_source.proofs.repeat.RepeatSourceSource.fill.Given as goal

abbrev pub invariant-loop-place : goal.invariant-loop-place
invariant-loop-place l = IsFilled (repeat_whole l.initial.self) l.initial.self.next l._place l.fn.items l.list
