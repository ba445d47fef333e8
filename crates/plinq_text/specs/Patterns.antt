-- What a regular expression finds.
use Rattle.std.specs.Prelude.{ℕ, ◌%◌, Bool, false, List, map, Option, Some, None, is_some, chars}
use Rattle.regex_hir.specs.Re.{Re}
use Rattle.regex_hir.specs.Find.{find}
use Rattle.regex_syntax.specs.Brackets.{Nested}
use Rattle.regex_syntax.specs.declared.Config.{Config}
use Rattle.regex_syntax.specs.Grammar.{Names, read}
use Rattle.regex_syntax.specs.Verdict.{default_config}

-- the options of a pattern that is searched for in bytes
abbrev pub over_bytes : Config
over_bytes = record default_config { utf8 = false }

-- the text itself, since a byte is below 256
abbrev pub as_bytes : List ℕ → List ℕ
as_bytes text = map (λ b. b % 256) text

-- whether what was read as a pattern matches somewhere in a text
abbrev pub found_by : Option (Nested Re × Names) → List ℕ → Bool
found_by None text = false
found_by (Some (pattern, names)) text = is_some (find pattern.value (as_bytes text) 0)

-- whether a pattern matches somewhere in a text, as the grammar of regular expressions reads it
abbrev pub pattern_finds : List ℕ → List ℕ → Bool
pattern_finds pattern text = found_by (read over_bytes (chars pattern)) text
