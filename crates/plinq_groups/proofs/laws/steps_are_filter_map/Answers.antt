use Rattle.plinq_groups.specs.Mapping.{mapped_items-kept}
use Rattle.plinq_groups.proofs.laws.steps_are_filter_map.Goals as goal

pub returns : goal.returns
returns g c = λ step xs. mapped_items-kept step xs
