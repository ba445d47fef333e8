-- Passing: what one operator makes of one item.
use Rattle.std.specs.Prelude.{ℕ, [], ◌∷◌, Bool, true, false, Option, None, Some}
use Rattle.plinq_source.specs.declared.ending.Ending.{Ending}
use Rattle.plinq_source.specs.declared.ending.Ending.TheVariants.{End, Fault}
use Rattle.plinq_source.specs.Trace.{Trace, open_trace, ended_trace}
use Rattle.plinq_ops.specs.declared.stage_state.StageState.{StageState}
use Rattle.plinq_ops.specs.declared.stage_state.StageState.TheVariants.{Expanding}
use Rattle.plinq_ops.specs.declared.passed.Passed.{Passed}
use Rattle.plinq_ops.specs.declared.passed.Passed.TheVariants.{Nothing, Item, Last, Ends}

-- the trace that an operator gives for an item, where x stands in the item's place now
abbrev pub passed_trace : {T : Type 0} → Passed → T → Trace T
passed_trace Item x = open_trace (x ∷ [])
passed_trace Last x = ended_trace (x ∷ []) End
passed_trace Nothing x = open_trace []
passed_trace (Ends e) x = ended_trace [] e

-- how a run ended by a lambda's fault, if any
abbrev pub ending_of : Option ℕ → Option Ending
ending_of None = None
ending_of (Some code) = Some (Fault code)

-- an operator that can give more items than it was given
abbrev pub expands : {L : Type 0} → StageState L → Bool
expands (Expanding f) = true
expands op = false
