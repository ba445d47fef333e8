-- What is asked of a query's answer: its items with the ending, or what a function makes of them.
use Rattle.std.specs.Prelude.{◌≡◌, ◌≢◌, ⊤, List, [], ◌∷◌, ◌++◌, Some, Bool, not, Result, Ok, Err}
use Rattle.plinq_source.specs.declared.ending.Ending.{Ending}
use Rattle.plinq_source.specs.declared.ending.Ending.TheVariants.{End}
use Rattle.plinq_source.specs.Trace.{Trace}
use Rattle.plinq_ops.specs.declared.merge_option.MergeOption.{MergeOption}
use Rattle.plinq_ops.specs.Batches.{batches}
use Rattle.plinq_run.specs.declared.aggregate_fault.AggregateFault.{AggregateFault}
use Rattle.plinq_run.specs.declared.aggregate_fault.AggregateFault.TheVariants.{Ended, Run}
use Rattle.plinq_run.specs.declared.report.Report.{Report}
use Rattle.plinq_run.specs.declared.run_fault.RunFault.{RunFault}
use Rattle.plinq_run.specs.declared.run_fault.RunFault.TheVariants.{Memory, Sink, Tickets, Thread, Incomplete, Cancelled}
use Rattle.plinq_run.specs.Runs.{Other, cause_of}

-- the items of batches, one batch after another
abbrev pub items_of : {T : Type 0} → List (List T) → List T
items_of [] = []
items_of (b ∷ bs) = b ++ items_of bs

-- an answer ended so, these are the items of its batches, and all of its items where it ended well
pub record IsGathered {T : Type 0} (option : MergeOption) (u : Trace T) (xs : List T) (e : Ending) : Type 0 where
  pub items : xs ≡ items_of (batches option u)
  pub all : e ≡ End → xs ≡ u.items
  pub ending : u.ending ≡ Some e

-- some answer was gathered
pub record GathersSome {T : Type 0} (option : MergeOption) (IsAnswer : Trace T → Type 0) (xs : List T) (e : Ending) : Type 0 where
  pub answer : Trace T
  pub may : IsAnswer answer
  pub gathered : IsGathered option answer xs e

-- no run was refused by a sink of its own, nor cancelled: memory, a thread or tickets were short
abbrev pub IsShort : RunFault → Type 0
IsShort fault = cause_of fault ≡ Other

-- this is made of the items of some answer, which ended well; or how some answer ended, which isn't well; or why there is none
abbrev pub TellsSome : {T O : Type 0} → (List T → O) → (Trace T → Type 0) → Result O AggregateFault → Type 0
TellsSome {T} tell IsAnswer (Ok out) = (u : Trace T) × (IsAnswer u) × (out ≡ tell u.items) × (u.ending ≡ Some End)
TellsSome {T} tell IsAnswer (Err (Ended e)) = (u : Trace T) × (IsAnswer u) × (u.ending ≡ Some e) × (e ≢ End)
TellsSome tell IsAnswer (Err (Run fault)) = IsShort fault

-- where there is no answer, memory ran out
abbrev pub LacksRoom : {O : Type 0} → Result O AggregateFault → Type 0
LacksRoom (Ok out) = ⊤
LacksRoom (Err (Ended e)) = ⊤
LacksRoom (Err (Run fault)) = fault ≡ Memory

-- the other answer, where there is one
abbrev pub negated : Result Bool AggregateFault → Result Bool AggregateFault
negated (Ok is) = Ok (not is)
negated (Err fault) = Err fault

-- a list and how its items' answer ended; where the list refused a batch, memory ran out
abbrev pub gathered_of : {V : Type 0} → V → Result Report RunFault → Result (V × Ending) RunFault
gathered_of list (Ok report) = Ok (list, report.ending)
gathered_of list (Err (Sink code)) = Err Memory
gathered_of list (Err Memory) = Err Memory
gathered_of list (Err Tickets) = Err Tickets
gathered_of list (Err Thread) = Err Thread
gathered_of list (Err Incomplete) = Err Incomplete
gathered_of list (Err Cancelled) = Err Cancelled
