-- What is reported of a run with its token.
use Rattle.std.specs.Prelude.{◌≡◌, ℕ, Bool, true, false, Result, Ok, Err}
use Rattle.plinq_source.specs.declared.ending.Ending.{Ending}
use Rattle.plinq_source.specs.declared.ending.Ending.TheVariants.{End, Refused, Fault}
use Rattle.plinq_aggregate.specs.Folding.{Folding}
use Rattle.plinq_merge.specs.declared.with_cancellation.WithCancellation.{WithCancellation}
use Rattle.plinq_run.specs.declared.aggregate_fault.AggregateFault.{AggregateFault}
use Rattle.plinq_run.specs.declared.aggregate_fault.AggregateFault.TheVariants.{Ended, Run}
use Rattle.plinq_run.specs.declared.run_fault.RunFault.{RunFault}
use Rattle.plinq_run.specs.declared.run_fault.RunFault.TheVariants.{Cancelled}

-- a token that returns true cancels what has ended well
abbrev pub unless_stopped : Bool → Ending → Result Ending RunFault
unless_stopped true e = Err Cancelled
unless_stopped false e = Ok e

-- what was stopped or has failed is reported so, and before an ending the token is asked once more
abbrev pub AsksAtLast : {C K : Type 0} → (C → ℕ → Bool → C → Type 0) → Bool → Result Ending RunFault → WithCancellation C K → Result Ending RunFault
    → WithCancellation C K → Type 0
AsksAtLast asks true outcome w r w' = (w' ≡ w) × (r ≡ Err Cancelled)
AsksAtLast asks false (Err fault) w r w' = (w' ≡ w) × (r ≡ Err fault)
AsksAtLast asks false (Ok e) w r w' = (answer : Bool) × (asks w.token.now w.delivered answer w'.token.now) × (w'.sink.now ≡ w.sink.now)
    × (r ≡ unless_stopped answer e)

-- the value of an accumulator whose answer ended so
abbrev pub value_ended : {T A O : Type 0} → Folding T A O → A → Ending → Result O AggregateFault
value_ended f acc End = Ok (f.tell acc)
value_ended f acc (Refused code) = Err (Ended (Refused code))
value_ended f acc (Fault code) = Err (Ended (Fault code))

-- of a run that ended so
abbrev pub value_reported : {T A O : Type 0} → Folding T A O → A → Result Ending RunFault → Result O AggregateFault
value_reported f acc (Ok e) = value_ended f acc e
value_reported f acc (Err fault) = Err (Run fault)
