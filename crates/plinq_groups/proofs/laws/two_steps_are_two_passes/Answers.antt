use Rattle.plinq_groups.specs.Composed.{mapped_items-composed}
use Rattle.plinq_groups.proofs.laws.two_steps_are_two_passes.Goals as goal

pub returns : goal.returns
returns g c = λ first second xs. mapped_items-composed first second xs
