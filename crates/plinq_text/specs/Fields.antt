-- The fields of a text.
use Rattle.std.specs.Prelude.{ℕ, zero, suc, ◌+◌, ◌==◌, ◌||◌, Bool, not, if◌then◌else◌, List, [], ◌∷◌, ◌++◌, Option, Some, None, map, flat_map, take, drop}
use Rattle.std.specs.List.{prefix_len}
use Rattle.plinq_text.specs.declared.line_step.Field.{Field}
use Rattle.plinq_text.specs.declared.line_step.Fields.{Fields}
use Rattle.plinq_text.specs.declared.line_step.Separator.{Separator}
use Rattle.plinq_text.specs.declared.line_step.Separator.TheVariants.{Blanks, Byte}

-- a space, a tab or a carriage return
abbrev pub is_blank : ℕ → Bool
is_blank b = (b == 32 || b == 9) || b == 13

-- how many bytes stand before the first one that passes
abbrev pub place_of : (ℕ → Bool) → List ℕ → ℕ
place_of passes = prefix_len (λ b. not (passes b))

-- field number n, from 0, between bytes of this value
unfoldable pub column : ℕ → ℕ → List ℕ → List ℕ
column byte zero text = take (place_of (λ b. b == byte) text) text
column byte (suc n) text = column byte n (drop (place_of (λ b. b == byte) text + 1) text)

-- the text without the blanks in front of it
abbrev pub after_blanks : List ℕ → List ℕ
after_blanks text = drop (prefix_len is_blank text) text

-- word number n, from 0, between blanks
unfoldable pub word : ℕ → List ℕ → List ℕ
word zero text = take (place_of is_blank (after_blanks text)) (after_blanks text)
word (suc n) text = word n (drop (place_of is_blank (after_blanks text)) (after_blanks text))

-- a field by its separator
abbrev pub field_between : Separator → ℕ → List ℕ → List ℕ
field_between Blanks n text = word n text
field_between (Byte byte) n text = column byte n text

-- a field of a text
abbrev pub field_of : Field → List ℕ → List ℕ
field_of f text = field_between f.separator f.index text

-- the text from column number n on
unfoldable pub from_column : ℕ → ℕ → List ℕ → List ℕ
from_column byte zero text = text
from_column byte (suc n) text = from_column byte n (drop (place_of (λ b. b == byte) text + 1) text)

-- the text from word number n on
unfoldable pub from_word : ℕ → List ℕ → List ℕ
from_word zero text = after_blanks text
from_word (suc n) text = from_word n (drop (place_of is_blank (after_blanks text)) (after_blanks text))

-- the text from a field on
abbrev pub from_field : Separator → ℕ → List ℕ → List ℕ
from_field Blanks n text = from_word n text
from_field (Byte byte) n text = from_column byte n text

-- what stands between two fields that are selected: a space for blanks, and for a line feed, which no line has within it
abbrev pub glue : Separator → ℕ
glue Blanks = 32
glue (Byte byte) = if byte == 10 then 32 else byte

-- further texts, each after that
abbrev pub further : Separator → List (List ℕ) → List ℕ
further s ts = flat_map (λ t. glue s ∷ t) ts

-- texts with that between two of them
abbrev pub joined : Separator → List (List ℕ) → List ℕ
joined s [] = []
joined s (t ∷ ts) = t ++ further s ts

-- fields of a text
abbrev pub fields : Separator → List ℕ → List ℕ → List (List ℕ)
fields s ns text = map (λ n. field_between s n text) ns

-- the text from a field on, if there is one
abbrev pub rest : Separator → Option ℕ → List ℕ → List (List ℕ)
rest s None text = []
rest s (Some n) text = from_field s n text ∷ []

-- the fields of a text that are selected
abbrev pub fields_of : Fields → List ℕ → List ℕ
fields_of f text = joined f.separator (fields f.separator f.indexes.items text ++ rest f.separator f.rest text)
