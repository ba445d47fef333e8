use Rattle.plinq_reorder.proofs.Gap.{row-append}
use Rattle.plinq_reorder.proofs.laws.a_row_goes_on.Goals as goal

pub returns : goal.returns
returns g c = λ from done to rest. row-append from done to rest
