use Rattle.plinq_lines.proofs.LinesTaken.{short-lines}
use Rattle.plinq_lines.proofs.laws.first_batches_are_a_beginning_of_lines.Goals as goal

pub returns : goal.returns
returns c = short-lines
