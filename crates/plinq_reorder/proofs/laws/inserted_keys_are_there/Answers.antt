use Rattle.plinq_reorder.proofs.Insert.{has_key-insert}
use Rattle.plinq_reorder.proofs.laws.inserted_keys_are_there.Goals as goal

pub returns : goal.returns
returns g c = λ start first end payload ps key. has_key-insert start first end payload ps key
