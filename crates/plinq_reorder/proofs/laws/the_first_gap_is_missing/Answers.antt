use Rattle.plinq_reorder.proofs.Gap.{gap-missing, gap-covered}
use Rattle.plinq_reorder.proofs.laws.the_first_gap_is_missing.Goals as goal

pub returns-clause-missing : goal.returns-clause-missing
returns-clause-missing g c = λ key ps. gap-missing key ps

pub returns-clause-covered : goal.returns-clause-covered
returns-clause-covered g c = λ key ps k. gap-covered key ps k
