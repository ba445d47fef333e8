-- What a compiled pattern is.
use Rattle.std.specs.Prelude.{◌≡◌, ℕ, List, is_some}
use Rattle.regex.specs.Bytes.{IsReadFromSource, regex_config}
use Rattle.regex.specs.declared.bytes.regex.Regex.{Regex}
use Rattle.regex_hir.specs.Re.{Re}
use Rattle.regex_hir.specs.Find.{find}
use Rattle.plinq_text.specs.Patterns.{as_bytes, over_bytes, pattern_finds}

-- it was compiled from its text, to search in bytes
abbrev pub IsCompiled : Regex → Type 0
IsCompiled r = (regex_config r ≡ over_bytes) × IsReadFromSource r

-- a search for re finds what the pattern finds
abbrev pub FindsAs : List ℕ → Re → Type 0
FindsAs pattern re = (text : List ℕ) → is_some (find re (as_bytes text) 0) ≡ pattern_finds pattern text
