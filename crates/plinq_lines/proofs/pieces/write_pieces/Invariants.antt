use Rattle.std.proofs.Common.{drop}
use Rattle.plinq_lines.specs.inner.Pieces.{pieces_words}
use Rattle.plinq_lines.proofs.PartWritten.{PartWritten}
use Rattle.plinq_lines.proofs.pieces.write_pieces.Given as goal

abbrev pub invariant-loop-piece : goal.invariant-loop-piece
invariant-loop-piece g l =
    PartWritten (g.W.Write.contents l.initial.writer) (g.W.Write.contents l.writer) (pieces_words (drop l.piece-index l.pieces)) (pieces_words l.pieces)
