-- the first number, and those after it with the line feed
use Rattle.std.proofs.Common.{◌≡◌, ℤ, List, [], ◌∷◌, ◌++◌, refl, ap, ◌∙◌, append_assoc, append-nil, rules}
use Rattle.std.specs.List.{flat_map}
use Rattle.std.proofs.lemmas.Int.{to_z-of_z}
use mir.Syntax.{w64}
use mir.Val.{SFits}
use Rattle.plinq_lines.specs.declared.piece.Piece.TheVariants.{Number}
use Rattle.plinq_lines.specs.inner.Pieces.{pieces_words}
use Rattle.plinq_lines.specs.AnswerText.{line, further_number, batch_line}
use Rattle.plinq_lines.proofs.PartWritten.{none-written, piece-failed, piece-written, rest-writes}
use Rattle.plinq_lines.proofs.batch_lines.write_long_batch.Goals as goal

parts : (batch : List ℤ) (x : ℤ) (further : List ℤ) → batch ≡ x ∷ further
    → batch_line batch ≡ pieces_words (Number x ∷ []) ++ line (flat_map further_number further)
parts batch x further is = ap batch_line is ∙ simp (append-nil, append_assoc)

pub returns-in_err-write_pieces : goal.returns-in_err-write_pieces
returns-in_err-write_pieces g c =
    let fits : SFits w64 c.in-Some.first.now = search rules in
    piece-failed _ _ _ _ (none-written _ _) (parts _ _ _ c.in-Some.ensures.cases.0) c.from_residual.ensures.0 (simp to_z-of_z at c.in_err-write_pieces.ensures)

pub returns : goal.returns
returns g c =
    let fits : SFits w64 c.in-Some.first.now = search rules in
    rest-writes _ _ _ (piece-written _ _ _ (none-written _ _) (parts _ _ _ c.in-Some.ensures.cases.0) (simp to_z-of_z at c.in_ok-write_pieces.ensures))
    refl c.write_further_numbers.ensures
