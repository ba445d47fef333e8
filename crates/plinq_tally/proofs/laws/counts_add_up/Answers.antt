use Rattle.plinq_tally.proofs.TimesLaws.{adds-up}
use Rattle.plinq_tally.proofs.laws.counts_add_up.Goals as goal

pub returns : goal.returns
returns c = adds-up
