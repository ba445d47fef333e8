use Rattle.plinq_keyed.proofs.Legal.{IsPrefix-from_legal}
use Rattle.plinq_keyed.proofs.laws.handed_out_is_a_prefix.Goals as goal

pub returns : goal.returns
returns g c = λ t h legal. IsPrefix-from_legal t h legal
