use Rattle.plinq_tally.proofs.TimesLaws.{counts-are-times}
use Rattle.plinq_tally.proofs.laws.counts_are_times.Goals as goal

pub returns : goal.returns
returns c = counts-are-times
