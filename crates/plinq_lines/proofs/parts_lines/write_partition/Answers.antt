-- the number and the colon, and the elements after them
use Rattle.std.proofs.Common.{[], ◌∷◌, decimal, refl, sym, append_assoc}
use Rattle.std.specs.List.{flat_map}
use Rattle.plinq_lines.specs.PartsText.{element_words}
use Rattle.plinq_lines.specs.AnswerText.{line}
use Rattle.plinq_lines.proofs.PartWritten.{none-written, piece-failed, piece-written, rest-writes}
use Rattle.plinq_lines.proofs.parts_lines.write_partition.Goals as goal

pub returns-in_err-write_pieces : goal.returns-in_err-write_pieces
returns-in_err-write_pieces g c =
    let parts = sym (append_assoc (decimal c.args.number) (58 ∷ []) (line (flat_map element_words c.args.elements.now))) in
    piece-failed _ _ _ _ (none-written _ _) parts c.from_residual.ensures.0 c.in_err-write_pieces.ensures

pub returns : goal.returns
returns g c =
    let parts = sym (append_assoc (decimal c.args.number) (58 ∷ []) (line (flat_map element_words c.args.elements.now))) in
    rest-writes _ _ _ (piece-written _ _ _ (none-written _ _) parts c.in_ok-write_pieces.ensures) refl c.write_elements.ensures
