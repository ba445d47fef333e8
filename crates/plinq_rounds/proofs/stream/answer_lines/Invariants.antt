use Rattle.std.proofs.Common.{◌≡◌, ◌≤◌, IfSome, length}
use Rattle.std.specs.Io.KnownBytes.{IsAtEnd}
use Rattle.plinq_text.specs.StepPatterns.{ArePatternsOf}
use Rattle.plinq_rounds.proofs.Streaming.{Streamed}
use Rattle.plinq_rounds.proofs.stream.answer_lines.Given as goal

abbrev pub invariant-loop : goal.invariant-loop
invariant-loop g l = record {
  streamed : Streamed l.fn.steps (g.I.Read.remaining l.fn.reader) (g.I.Read.remaining l.reader) (g.W.Write.contents l.fn.out)
      (g.W.Write.contents l.out) l.buffer l.steps l.lines;
  came : IfSome l.came (λ n. (n ≤ length l.buffer) × (n ≡ 0 → IsAtEnd (g.I.Read.remaining l.reader)));
  patterns : ArePatternsOf l.steps l.patterns.items;
}
