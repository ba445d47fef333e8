use Rattle.plinq_tally.proofs.FigureLaws.{figures-are-of-numbers}
use Rattle.plinq_tally.proofs.laws.figures_are_of_numbers.Goals as goal

pub returns : goal.returns
returns c = figures-are-of-numbers
