-- What is written of the lines that a reader gives.
use Rattle.std.specs.Prelude.{◌≡◌, ◌⊎◌, ℕ, ◌%◌, Bool, true, false, List, [], ◌++◌, Option, Some, None, Result, Ok, Err, ⊤}
use Rattle.std.specs.Io.KnownBytes.{Appends, Keeps}
use Rattle.plinq_lines.specs.Written.{AppendsBeginning}
use Rattle.plinq_text.specs.declared.line_step.LineStep.{LineStep}
use Rattle.plinq_text.specs.Lines.{Line, is_whole, lines_of, written}
use Rattle.plinq_text.specs.Steps.{answer, answer_text, bad_line, has_failed, left}
use Rattle.plinq_rounds.specs.declared.lines_fault.LinesFault.{LinesFault}
use Rattle.plinq_rounds.specs.declared.lines_fault.LinesFault.TheVariants.{Memory, Read, Check, Write, Thread, Incomplete}

-- whether a fault is a writer's, or that of a line that failed a check
abbrev pub fails : LinesFault → Bool
fails Memory = false
fails Read = false
fails (Check n) = true
fails Write = true
fails Thread = false
fails Incomplete = false

-- What the steps make of lines isn't written; after a failing write a beginning of it is. If one fails a check, as the fault says,
-- it is written.
abbrev pub BreaksOff : List LineStep → List Line → LinesFault → Option (List ℕ) → Option (List ℕ) → Type 0
BreaksOff ss ls Write old new = AppendsBeginning old new (written (answer ss ls))
BreaksOff ss ls (Check n) old new = Appends old new (written (answer ss ls)) × (bad_line ss ls ≡ Some n)
BreaksOff ss ls Memory old new = Keeps old new
BreaksOff ss ls Read old new = Keeps old new
BreaksOff ss ls Thread old new = Keeps old new
BreaksOff ss ls Incomplete old new = Keeps old new

-- what the steps make of lines is written, of which none fails a check, and this is left of them
abbrev pub Passes : {A : Type 0} → List LineStep → List Line → Option (List ℕ) → Option (List ℕ) → Result A LinesFault → List LineStep → Type 0
Passes ss ls old new (Ok _) ss' = Appends old new (written (answer ss ls)) × (ss' ≡ left ss ls) × (bad_line ss ls ≡ None)
Passes ss ls old new (Err fault) ss' = BreaksOff ss ls fault old new

-- these are the bytes that a reader has, if it reports them
abbrev pub AreItsBytes : Option (List ℕ) → List ℕ → Type 0
AreItsBytes None bytes = ⊤
AreItsBytes (Some told) bytes = told ≡ bytes

-- these bytes are whole lines, or nothing comes after them
abbrev pub AreLines : List ℕ → List ℕ → Type 0
AreLines bytes later = (is_whole bytes ≡ true) ⊎ (later ≡ [])

-- so many lines, modulo 2^64, stand before the first that fails a check
abbrev pub IsBadAt : List LineStep → List Line → ℕ → Type 0
IsBadAt ss ls n = (k : ℕ) × (bad_line ss ls ≡ Some k) × (n ≡ k % 18446744073709551616)

-- no line fails a check, unless one did before
abbrev pub NoneIsBad : List LineStep → List Line → Type 0
NoneIsBad ss ls = has_failed ss ≡ false → bad_line ss ls ≡ None

-- what the steps make of lines is written, or after a failing write a beginning of it; if one fails a check, the fault says which
abbrev pub EndsAt : List LineStep → List Line → LinesFault → Option (List ℕ) → Option (List ℕ) → Type 0
EndsAt ss ls Write old new = AppendsBeginning old new (written (answer ss ls))
EndsAt ss ls (Check n) old new = Appends old new (written (answer ss ls)) × IsBadAt ss ls n
EndsAt ss ls Memory old new = Appends old new (written (answer ss ls))
EndsAt ss ls Read old new = Appends old new (written (answer ss ls))
EndsAt ss ls Thread old new = Appends old new (written (answer ss ls))
EndsAt ss ls Incomplete old new = Appends old new (written (answer ss ls))

-- two rows of steps make the same of all lines
abbrev pub MakeTheSame : List LineStep → List LineStep → Type 0
MakeTheSame ss ss' = (ls : List Line) → answer ss ls ≡ answer ss' ls

-- What is written is what the steps make of the lines of the reader's bytes, of which none fails a check, and what is left of them
-- is left for lines after these; after a failure what they make of lines with which these begin.
abbrev pub AnswersLines : {A : Type 0} → List LineStep → Option (List ℕ) → Option (List ℕ) → Option (List ℕ) → Result A LinesFault → List LineStep → Type 0
AnswersLines ss told old new (Ok _) ss' =
    (bytes : List ℕ) × AreItsBytes told bytes × Appends old new (answer_text ss bytes) × MakeTheSame ss' (left ss (lines_of bytes))
    × NoneIsBad ss (lines_of bytes)
AnswersLines ss told old new (Err fault) ss' =
    (bytes : List ℕ) × (later : List ℕ) × AreItsBytes told (bytes ++ later) × AreLines bytes later × EndsAt ss (lines_of bytes) fault old new
