-- The pieces that lines are made of.
use Rattle.std.specs.Prelude.{ℕ, List, decimal}
use Rattle.std.specs.List.{flat_map}
use Rattle.std.specs.Fmt.{signed_decimal}
use Rattle.plinq_lines.specs.declared.piece.Piece.{Piece}
use Rattle.plinq_lines.specs.declared.piece.Piece.TheVariants.{Text, Count, Number, Value}

-- what a piece is written as
abbrev pub piece_words : Piece → List ℕ
piece_words (Text words) = words.now
piece_words (Count n) = decimal n
piece_words (Number x) = signed_decimal x
piece_words (Value x) = signed_decimal x

-- pieces one after another
abbrev pub pieces_words : List Piece → List ℕ
pieces_words = flat_map piece_words
