-- What a sink that writes lines says of a batch, by the bytes that are known to be written.
use Rattle.std.specs.Prelude.{◌≡◌, ℕ, ℤ, List, Option, Some, None, ⊤}
use Rattle.std.specs.Io.KnownBytes.{Appends}
use Rattle.plinq_lines.specs.AnswerText.{batch_line}
use Rattle.plinq_lines.specs.Written.{AppendsBeginning}

-- what is known of a writer's bytes, if they were known at the start
abbrev pub known_since : Option (List ℕ) → Option (List ℕ) → Option (List ℕ)
known_since None now = None
known_since (Some start) now = now

-- bytes that were known at the start still are
abbrev pub StaysKnown : Option (List ℕ) → Option (List ℕ) → Type 0
StaysKnown None now = ⊤
StaysKnown (Some start) None = ⊥
StaysKnown (Some start) (Some now) = ⊤

-- the code with which a batch is refused whose line couldn't be written
abbrev pub write_failed : ℕ
write_failed = 1

-- what contracts see of such a sink: what is known of its writer's bytes, and which writer was lent to it
pub record Lines : Type 0 where
  pub bytes : Option (List ℕ)
  pub writer : ℕ

-- a batch that is taken is written as its line
pub record TakesLine (s : Lines) (batch : List ℤ) (s' : Lines) : Type 0 where
  pub line : Appends s.bytes s'.bytes (batch_line batch)
  pub writer : s'.writer ≡ s.writer

-- of one that is refused a beginning of its line is written
pub record RefusesLine (s : Lines) (batch : List ℤ) (code : ℕ) (s' : Lines) : Type 0 where
  pub code_is : code ≡ write_failed
  pub begun : AppendsBeginning s.bytes s'.bytes (batch_line batch)
  pub writer : s'.writer ≡ s.writer
