use Rattle.plinq_source.specs.Walked.{list_whole}
use Rattle.plinq_source.proofs.Filling.{IsFilled}
use Rattle.plinq_source.proofs.list.ListSourceSource.fill.Given as goal

abbrev pub invariant-loop-place : goal.invariant-loop-place
invariant-loop-place g l = IsFilled (list_whole l.initial.self) l.initial.self.next l.place l.fn.items l.list
