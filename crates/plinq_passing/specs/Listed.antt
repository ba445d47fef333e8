-- All that a query makes, in a list, and how it ended.
use Rattle.std.specs.Prelude.{◌≡◌, refl, ⊤, ℕ, List, [], ◌∷◌, false, Option, Some, None, Result, Ok, Err}
use Rattle.plinq_source.specs.declared.ending.Ending.{Ending}
use Rattle.plinq_source.specs.declared.ending.Ending.TheVariants.{End, Refused}
use Rattle.plinq_ops.specs.Query.{is_degree}
use Rattle.plinq_run.specs.declared.run_fault.RunFault.TheVariants.{Memory, Sink, Tickets, Thread, Incomplete, Cancelled}
use Rattle.plinq_run.specs.Runs.{cause_of}
use Rattle.plinq_passing.specs.declared.query_fault.QueryFault.{QueryFault}
use Rattle.plinq_passing.specs.declared.query_fault.QueryFault.TheVariants.{Degree, Growth, Ended, Run}
use Rattle.plinq_passing.specs.Told.{CantGrow, FallsShort}

-- the list of what came and the ending; where an item was refused, there was no memory for it
abbrev pub listed : {T : Type 0} → Result ⊤ QueryFault → Option (List T) → Result (List T × Ending) QueryFault
listed (Ok all) (Some xs) = Ok (xs, End)
listed (Ok all) None = Err (Run Memory)
listed (Err Degree) xs = Err Degree
listed (Err (Growth fault)) xs = Err (Growth fault)
listed (Err (Ended e)) (Some xs) = Ok (xs, e)
listed (Err (Ended e)) None = Err (Run Memory)
listed (Err (Run (Sink code))) xs = Err (Run Memory)
listed (Err (Run Memory)) xs = Err (Run Memory)
listed (Err (Run Tickets)) xs = Err (Run Tickets)
listed (Err (Run Thread)) xs = Err (Run Thread)
listed (Err (Run Incomplete)) xs = Err (Run Incomplete)
listed (Err (Run Cancelled)) xs = Err (Run Cancelled)

-- why there is no list: so many workers can't be had; or the growth's numbers make none; or the token stopped it; or memory, a thread or
-- tickets were short. How the source ended is no such reason.
abbrev pub WasShort : Type 0 → ℕ → Option (ℕ × ℕ × ℕ) → QueryFault → Type 0
WasShort Stops workers growth Degree = is_degree workers ≡ false
WasShort Stops workers growth (Growth fault) = CantGrow growth fault
WasShort Stops workers growth (Ended e) = ⊥
WasShort Stops workers growth (Run fault) = FallsShort Stops (cause_of fault)

-- the same on one thread, where nothing but memory can be short
abbrev pub WasShortAlone : QueryFault → Type 0
WasShortAlone fault = fault ≡ Run Memory

-- ---- worked rows

-- what came before a refusal is there, and so is the refusal
before_a_refusal : listed {T = ℕ} (Err (Ended (Refused 7))) (Some (4 ∷ [])) ≡ Ok (4 ∷ [], Refused 7)
before_a_refusal = refl

-- a refusal of the source withholds nothing
refused_is_short : WasShort ⊥ 4 None (Ended (Refused 7)) → ⊥
refused_is_short is = is
