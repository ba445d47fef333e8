use Rattle.plinq_keyed.proofs.Rising.{keys-handed_out}
use Rattle.plinq_keyed.proofs.laws.handed_out_keys_count_up.Goals as goal

pub returns : goal.returns
returns g c = λ t h legal. keys-handed_out t h legal
