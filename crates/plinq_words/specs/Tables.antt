-- Tables of words.
use Rattle.std.specs.Prelude.{ℕ, List, [], ◌∷◌, Option, Some, None, if◌then◌else◌}
use Rattle.std.specs.Str.{bytes_eq}

-- what stands beside a word in a table
abbrev pub beside : {A : Type 0} → List (List ℕ × A) → List ℕ → Option A
beside [] word = None
beside (row ∷ rows) word = if bytes_eq word row.0 then Some row.1 else beside rows word
