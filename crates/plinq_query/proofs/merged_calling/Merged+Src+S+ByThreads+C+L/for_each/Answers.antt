-- A closure may be called in one way.
use Rattle.std.specs.Coded.{Π_prop}
use Rattle.plinq_query.proofs.merged_calling.Merged+Src+S+ByThreads+C+L.for_each.Goals as goal

pub call_left_by_threads-requires-clause-may_call_in_one_way : goal.call_left_by_threads-requires-clause-may_call_in_one_way
call_left_by_threads-requires-clause-may_call_in_one_way g c _ _ = Π_prop λ f. Π_prop λ x. c.requires.may_call_in_one_way f x
