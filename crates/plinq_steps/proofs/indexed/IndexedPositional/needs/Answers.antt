use Rattle.plinq_steps.specs.Beside.{numbered_brings}
use Rattle.plinq_steps.specs.Enough.{lifted}
use Rattle.plinq_steps.proofs.indexed.IndexedPositional.needs.Goals as goal

pub returns : goal.returns
returns g c = lifted c.needs.result (λ n. numbered_brings c.args.self.now.next c.args.count n) c.needs.ensures
