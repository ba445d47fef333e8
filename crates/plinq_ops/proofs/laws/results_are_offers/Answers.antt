use Rattle.plinq_ops.proofs.ResultRows.{offer-of_record}
use Rattle.plinq_ops.proofs.laws.results_are_offers.Goals as goal

pub returns : goal.returns
returns g c = λ meaning worker t h asked r. offer-of_record meaning worker t h asked r
