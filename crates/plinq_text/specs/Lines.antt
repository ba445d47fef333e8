-- The lines of a text.
use Rattle.std.specs.Prelude.{ℕ, ◌==◌, if◌then◌else◌, List, [], ◌∷◌, ◌++◌, flat_map, Bool, true, not, ◌&&◌, ◌≡◌, ⊤}

-- a line: its text, and the line feed that ends it, or nothing if the input ends without one
pub record Line : Type 0 where
  pub text : List ℕ
  pub end : List ℕ

abbrev pub line_feed : ℕ
line_feed = 10

-- a line of this text that a line feed ends
abbrev pub full_line : List ℕ → Line
full_line text = record { text = text; end = line_feed ∷ [] }

-- lines with one byte more in front of the first
abbrev pub grown : ℕ → List Line → List Line
grown b [] = record { text = b ∷ []; end = [] } ∷ []
grown b (l ∷ ls) = record { text = b ∷ l.text; end = l.end } ∷ ls

-- The lines of a text. A line feed ends each, but for the last one if the text ends without; a carriage return is a byte of its
-- line.
unfoldable pub lines_of : List ℕ → List Line
lines_of [] = []
lines_of (b ∷ rest) = if b == line_feed then full_line [] ∷ lines_of rest else grown b (lines_of rest)

-- lines as they are written: each text and what ends it
abbrev pub written : List Line → List ℕ
written = flat_map (λ l. l.text ++ l.end)

-- a text of whole lines: it is empty, or a line feed stands at its end
unfoldable pub is_whole : List ℕ → Bool
is_whole [] = true
is_whole (b ∷ []) = b == line_feed
is_whole (b ∷ c ∷ rest) = is_whole (c ∷ rest)

-- no line feed stands in a text
abbrev pub is_text : List ℕ → Bool
is_text [] = true
is_text (b ∷ rest) = not (b == line_feed) && is_text rest

-- lines that a line feed ends, with none in their texts
unfoldable pub AreFull : List Line → Type 0
AreFull [] = ⊤
AreFull (l ∷ ls) = (is_text l.text ≡ true) × (l.end ≡ line_feed ∷ []) × AreFull ls
