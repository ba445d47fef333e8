-- What is made of the items given so far was passed on.
use Rattle.std.specs.Prelude.{◌≡◌, take, length, ◌-◌}
use Rattle.std.specs.List.{filter_map}
use Rattle.plinq_closures.specs.inner.Only.{answer_in}
use Rattle.plinq_merge.specs.Sending.{Leads}
use Rattle.plinq_passing.proofs.alone.visit_alone.Given as goal

abbrev pub invariant-loop-x : goal.invariant-loop-x
invariant-loop-x g l =
    (g.Src.Source.whole l.source ≡ g.Src.Source.whole l.fn.source)
    × Leads g.V.Visits.takes l.fn.by
    (filter_map (λ x. answer_in (l.made.one x)) (take (g.Src.Source.given l.source) (g.Src.Source.whole l.fn.source).items)) l.by

abbrev pub decreases-loop-x : goal.decreases-loop-x
decreases-loop-x g l = length (g.Src.Source.whole l.source).items - g.Src.Source.given l.source
