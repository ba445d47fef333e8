use Rattle.plinq_lines.proofs.LinesTaken.{taken-lines}
use Rattle.plinq_lines.proofs.laws.taken_batches_are_lines.Goals as goal

pub returns : goal.returns
returns c = taken-lines
