-- The first line that fails a check.
use Rattle.std.specs.Prelude.{ℕ, Option, Some, None}

-- one of before, or else another
abbrev pub or_now : Option ℕ → Option ℕ → Option ℕ
or_now (Some n) now = Some n
or_now None now = now
