-- The field with which a text begins.
use Rattle.std.specs.Prelude.{ℕ, ◌==◌, List, take}
use Rattle.plinq_text.specs.declared.line_step.Separator.{Separator}
use Rattle.plinq_text.specs.declared.line_step.Separator.TheVariants.{Blanks, Byte}
use Rattle.plinq_text.specs.Fields.{is_blank, place_of}

-- what stands before the first separator
abbrev pub first_field : Separator → List ℕ → List ℕ
first_field Blanks text = take (place_of is_blank text) text
first_field (Byte byte) text = take (place_of (λ b. b == byte) text) text
