-- a piece is written after those before it
use Rattle.std.proofs.lemmas.List.{at_drop_more}
use Rattle.plinq_lines.specs.inner.Pieces.{pieces_words}
use Rattle.plinq_lines.proofs.PartWritten.{piece-failed, piece-written}
use Rattle.plinq_lines.proofs.pieces.write_pieces.Goals as goal

pub returns-in_err-write_piece : goal.returns-in_err-write_piece
returns-in_err-write_piece g c =
    piece-failed _ _ _ _ c.loop-piece.invariant
    (at_drop_more pieces_words c.args.pieces.now c.loop-piece.piece-index _ c.loop-piece-test.true)
    c.from_residual.ensures.0 c.in_err-write_piece.ensures

pub loop-piece-preserved : goal.loop-piece-preserved
loop-piece-preserved g c =
    piece-written _ _ _ c.loop-piece.invariant
    (at_drop_more pieces_words c.args.pieces.now c.loop-piece.piece-index _ c.loop-piece-test.true)
    c.in_ok-write_piece.ensures
