use Rattle.std.proofs.Common.{◌≡◌, true}
use Rattle.plinq_reorder.proofs.Insert.{All-insert}
use Rattle.plinq_reorder.proofs.laws.each_stays_true.Goals as goal

pub returns : goal.returns
returns g c = λ test ps first end payload. All-insert (λ p. test p ≡ true) ps first end payload
