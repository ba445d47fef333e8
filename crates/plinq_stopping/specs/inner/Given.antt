-- What a taker was given of a run's answer, by what the run's token has returned.
use Rattle.std.specs.Prelude.{ℕ, Bool, Option, Result, Ok, Err}
use Rattle.plinq_source.specs.declared.ending.Ending.{Ending}
use Rattle.plinq_source.specs.Trace.{Trace}
use Rattle.plinq_aggregate.specs.Folding.{Folding}
use Rattle.plinq_merge.specs.declared.delivery_fault.DeliveryFault.{DeliveryFault}
use Rattle.plinq_run.specs.declared.run_fault.RunFault.{RunFault}
use Rattle.plinq_run.specs.declared.run_fault.RunFault.TheVariants.{Memory as NoMemory, Sink as Refusal, Cancelled}
use Rattle.plinq_run.specs.Parting.{GivesSome}
use Rattle.plinq_stopping.specs.Asking.{Lets, HasLet, HasStopped}

module _ {C W K T A U : Type 0} (f : Folding T A U) (asks : C → ℕ → Bool → C → Type 0)
    (made : W → K → Trace A → Result (Option Ending) DeliveryFault → W → K → Type 0) (IsAnswer : Trace T → Type 0) (a : W) (x y : K) (c c' : C) where
  -- all of an answer was given, and the token has let it; or a beginning, which it has stopped as if memory had run out; or the run broke off
  abbrev pub GivesAsked : Result Ending RunFault → Type 0
  GivesAsked (Ok e) = (GivesSome f made IsAnswer a x (Ok e) y) × HasLet asks c c'
  GivesAsked (Err Cancelled) = (GivesSome f made IsAnswer a x (Err NoMemory) y) × HasStopped asks c c'
  GivesAsked (Err (Refusal code)) = (GivesSome f made IsAnswer a x (Err (Refusal code)) y) × HasLet asks c c'
  GivesAsked (Err fault) = (GivesSome f made IsAnswer a x (Err fault) y) × Lets asks c c'
