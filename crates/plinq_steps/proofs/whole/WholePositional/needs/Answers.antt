use Rattle.plinq_steps.specs.Enough.{unchanged_brings}
use Rattle.plinq_steps.proofs.whole.WholePositional.needs.Goals as goal

pub returns : goal.returns
returns g c = unchanged_brings c.args.count
