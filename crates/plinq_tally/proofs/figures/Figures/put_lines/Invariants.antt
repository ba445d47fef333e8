use Rattle.std.proofs.Common.{◌≡◌, ◌++◌, take}
use Rattle.plinq_tally.specs.FigureText.{figures_text}
use Rattle.plinq_tally.proofs.figures.Figures.put_lines.Given as goal

abbrev pub invariant-loop-i : goal.invariant-loop-i
invariant-loop-i l = l.out.items ≡ l.fn.out.items ++ figures_text l.told (take l.i l.self.1)
