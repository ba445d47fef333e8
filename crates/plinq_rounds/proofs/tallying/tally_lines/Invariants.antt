use Rattle.std.proofs.Common.{◌≡◌, ◌≤◌, IfSome, length}
use Rattle.std.specs.Io.KnownBytes.{IsAtEnd}
use Rattle.plinq_text.specs.StepPatterns.{ArePatternsOf}
use Rattle.plinq_rounds.proofs.TallyingLaws.{Tallied}
use Rattle.plinq_rounds.proofs.tallying.tally_lines.Given as goal

abbrev pub invariant-loop : goal.invariant-loop
invariant-loop g l = record {
  tallied : Tallied g.T.TakeLines.after l.fn.steps (g.I.Read.remaining l.fn.reader) (g.I.Read.remaining l.reader) l.fn.taker l.taker l.buffer l.steps l.lines;
  came : IfSome l.came (λ n. (n ≤ length l.buffer) × (n ≡ 0 → IsAtEnd (g.I.Read.remaining l.reader)));
  patterns : ArePatternsOf l.steps l.patterns.items;
}
