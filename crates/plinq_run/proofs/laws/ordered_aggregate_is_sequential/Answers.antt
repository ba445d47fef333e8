use Rattle.std.proofs.Common.{subst}
use Rattle.plinq_run.specs.Aggregates.{Aggregates}
use Rattle.plinq_run.proofs.laws.ordered_aggregate_is_sequential.Goals as goal

pub returns : goal.returns
returns g c = λ f ops t result some. subst (λ u. Aggregates f u result) some.1 some.2
