-- A closure may be called in one way.
use Rattle.std.specs.Coded.{Π_prop}
use Rattle.plinq_collect.proofs.calling.for_each.Goals as goal

pub visit_each-requires-clause-in_one_way : goal.visit_each-requires-clause-in_one_way
visit_each-requires-clause-in_one_way g c _ _ = Π_prop λ f. Π_prop λ x. c.requires.in_one_way f x
