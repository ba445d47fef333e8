use Rattle.plinq_merge.proofs.Whole.{told-of_record}
use Rattle.plinq_merge.proofs.laws.tails_tell_the_end.Goals as goal

pub returns : goal.returns
returns g c = λ meaning worker t h asked r legal there. told-of_record meaning worker t h asked legal there r
