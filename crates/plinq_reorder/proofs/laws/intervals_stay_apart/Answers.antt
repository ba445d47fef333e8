use Rattle.plinq_reorder.proofs.Insert.{apart-insert}
use Rattle.plinq_reorder.proofs.laws.intervals_stay_apart.Goals as goal

pub returns : goal.returns
returns g c = λ start first end payload ps. apart-insert start first end payload ps
