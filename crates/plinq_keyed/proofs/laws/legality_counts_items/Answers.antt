use Rattle.plinq_keyed.proofs.Legal.{is_legal_history-some}
use Rattle.plinq_keyed.proofs.laws.legality_counts_items.Goals as goal

pub returns : goal.returns
returns g c = λ t h. is_legal_history-some t h
