-- How a round ends.
use Rattle.std.specs.Prelude.{◌≡◌, ℕ, ◌+◌, ◌%◌, Option, Some, None, Result, Ok, Err, ⊤}
use Rattle.plinq_rounds.specs.declared.lines_fault.LinesFault.{LinesFault}
use Rattle.plinq_rounds.specs.declared.lines_fault.LinesFault.TheVariants.{Memory, Read, Check, Write, Thread, Incomplete}

-- a line failed a check, or else it ends well
abbrev pub IsEndOf : {A : Type 0} → Option ℕ → Result A LinesFault → Type 0
IsEndOf bad (Ok x) = bad ≡ None
IsEndOf bad (Err fault) = (n : ℕ) × (bad ≡ Some n) × (fault ≡ Check n)

-- a fault of a round that stands behind so many lines
abbrev pub behind : ℕ → LinesFault → LinesFault
behind lines (Check n) = Check ((n + lines) % 18446744073709551616)
behind lines Memory = Memory
behind lines Read = Read
behind lines Write = Write
behind lines Thread = Thread
behind lines Incomplete = Incomplete

-- how a round ends that stands behind so many lines
abbrev pub ends_behind : {A : Type 0} → ℕ → Result A LinesFault → Result A LinesFault
ends_behind lines (Ok x) = Ok x
ends_behind lines (Err fault) = Err (behind lines fault)

-- a writer wasn't flushed after a round of which all was written
abbrev pub IsFlushFailed : {A : Type 0} → Result A LinesFault → Result A LinesFault → Type 0
IsFlushFailed (Ok x) result = result ≡ Err Write
IsFlushFailed (Err (Check n)) result = result ≡ Err Write
IsFlushFailed (Err Memory) result = ⊥
IsFlushFailed (Err Read) result = ⊥
IsFlushFailed (Err Write) result = ⊥
IsFlushFailed (Err Thread) result = ⊥
IsFlushFailed (Err Incomplete) result = ⊥

-- a round of these lines ends well if none fails a check; if one does, the fault says which
abbrev pub RoundEnds : {A : Type 0} → Option ℕ → Result A LinesFault → Type 0
RoundEnds bad (Ok x) = bad ≡ None
RoundEnds bad (Err (Check n)) = bad ≡ Some n
RoundEnds bad (Err Memory) = ⊤
RoundEnds bad (Err Read) = ⊤
RoundEnds bad (Err Write) = ⊤
RoundEnds bad (Err Thread) = ⊤
RoundEnds bad (Err Incomplete) = ⊤
