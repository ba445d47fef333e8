-- A text cut into blocks of whole lines.
use Rattle.std.specs.Prelude.{◌≡◌, ℕ, ◌-◌, ◌<◌, ◌≤◌, nat_le, ◌&&◌, true, if◌then◌else◌, List, [], ◌∷◌, length, take, drop, flat_map, Option, Some, None}
use Rattle.std.specs.Prelude.{option_map}
use Rattle.plinq_text.specs.declared.line_step.LineStep.{LineStep}
use Rattle.plinq_text.specs.Lines.{Line, is_whole, lines_of, written}
use Rattle.plinq_text.specs.Steady.{steady_lines}
use Rattle.plinq_text.specs.Steps.{answer, bad_line, left}
use Rattle.plinq_rounds.specs.declared.block.Span.{Span}

-- the bytes at this place of a text, if it has such a place
abbrev pub part_of : List ℕ → Span → List ℕ
part_of text s = if nat_le s.start s.end && nat_le s.end (length text) then take (s.end - s.start) (drop s.start text) else []

-- spans that follow one another from this place to the text's end, each of whole lines
unfoldable pub IsCutFrom : List ℕ → ℕ → List Span → Type 0
IsCutFrom text from [] = length text ≤ from
IsCutFrom text from (s ∷ ss) = (s.start ≡ from) × (s.start < s.end) × (s.end ≤ length text) × (is_whole (part_of text s) ≡ true) × IsCutFrom text s.end ss

-- what steps make of the lines of a text, if each stays as it is
abbrev pub steady_bytes : List LineStep → List ℕ → Option (List ℕ)
steady_bytes ss text = option_map written (steady_lines ss (lines_of text))

-- these blocks are what steps make of the lines of a text, and each stays as it is
abbrev pub AreSteadyBlocks : List LineStep → List ℕ → List (List ℕ) → Type 0
AreSteadyBlocks ss text blocks =
    (made : List Line) × (steady_lines ss (lines_of text) ≡ Some made) × (flat_map (λ b. b) blocks ≡ written made) × (flat_map lines_of blocks ≡ made)

-- blocks that two rows of steps make of the lines of a text, of which the first stay as they are and these are left of the later
abbrev pub PassesParts : List LineStep → List LineStep → List LineStep → List ℕ → Option (List (List ℕ)) → Type 0
PassesParts first later later' text None = later' ≡ later
PassesParts first later later' text (Some blocks) =
    (made : List Line) × (steady_lines first (lines_of text) ≡ Some made) × (flat_map (λ b. b) blocks ≡ written (answer later made))
    × (flat_map lines_of blocks ≡ answer later made) × (later' ≡ left later made)

-- blocks that steps make of the lines of a text, of which none fails a check, and these are left; or nothing has changed
abbrev pub PassesSteady : List LineStep → List LineStep → List Line → Option (List (List ℕ)) → Type 0
PassesSteady ss ss' ls None = ss' ≡ ss
PassesSteady ss ss' ls (Some blocks) =
    (flat_map (λ b. b) blocks ≡ written (answer ss ls)) × (flat_map lines_of blocks ≡ answer ss ls) × (ss' ≡ left ss ls) × (bad_line ss ls ≡ None)
