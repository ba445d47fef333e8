-- The lines of an answer, taken in one by one.
use Rattle.std.specs.Prelude.{◌≡◌, ℕ, if◌then◌else◌, List, [], ◌∷◌, ◌++◌, Option, Result, Ok, Err, ⊤}
use Rattle.std.specs.List.{fold}
use Rattle.plinq_text.specs.declared.line_step.LineStep.{LineStep}
use Rattle.plinq_text.specs.Lines.{Line, is_whole, line_feed, lines_of}
use Rattle.plinq_text.specs.Steps.{answer, left}
use Rattle.plinq_rounds.specs.declared.lines_fault.LinesFault.{LinesFault}
use Rattle.plinq_rounds.specs.declared.lines_fault.LinesFault.TheVariants.{Memory, Read, Check, Write, Thread, Incomplete}
use Rattle.plinq_rounds.specs.Streams.{AreItsBytes, AreLines, IsBadAt, MakeTheSame, NoneIsBad}

-- a text with a line feed at its end, unless its lines are whole
abbrev pub ended : List ℕ → List ℕ
ended text = if is_whole text then text else text ++ line_feed ∷ []

-- if a line fails a check, the fault says which
abbrev pub FindsBad : List LineStep → Option (List ℕ) → LinesFault → Type 0
FindsBad ss told (Check n) =
    (bytes : List ℕ) × (later : List ℕ) × AreItsBytes told (bytes ++ later) × AreLines bytes later × IsBadAt ss (lines_of (ended bytes)) n
FindsBad ss told Memory = ⊤
FindsBad ss told Read = ⊤
FindsBad ss told Write = ⊤
FindsBad ss told Thread = ⊤
FindsBad ss told Incomplete = ⊤

-- What is taken in is what the steps make of the lines of the reader's bytes, of which the last has its line feed or is given one,
-- and none fails a check; what is left of them is left for lines after these. If one fails a check, the fault says which.
abbrev pub TakesLines : {V A : Type 0} → (V → Line → V) → List LineStep → Option (List ℕ) → V → V → Result A LinesFault → List LineStep → Type 0
TakesLines after ss told old new (Ok _) ss' =
    (bytes : List ℕ) × AreItsBytes told bytes × (new ≡ fold after old (answer ss (lines_of (ended bytes))))
    × MakeTheSame ss' (left ss (lines_of (ended bytes))) × NoneIsBad ss (lines_of (ended bytes))
TakesLines after ss told old new (Err fault) ss' = FindsBad ss told fault
