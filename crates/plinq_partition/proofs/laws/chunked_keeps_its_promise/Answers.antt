use Rattle.std.proofs.lemmas.Bool.{false≢true}
use Rattle.plinq_partition.proofs.OnDemand.{ordered-lists, normalized-lists}
use Rattle.plinq_partition.proofs.laws.chunked_keeps_its_promise.Goals as goal

pub returns : goal.returns
returns g c = λ chunked ps t all legal. record {
  in_each = λ _. ordered-lists chunked t ps all;
  across = λ never. absurd (false≢true never);
  normal = λ _. normalized-lists t ps legal;
}
