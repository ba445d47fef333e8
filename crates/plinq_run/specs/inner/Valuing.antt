-- What is reported of an accumulator.
use Rattle.std.specs.Prelude.{Result, Ok, Err}
use Rattle.plinq_source.specs.declared.ending.Ending.{Ending}
use Rattle.plinq_source.specs.declared.ending.Ending.TheVariants.{End, Refused, Fault}
use Rattle.plinq_aggregate.specs.Folding.{Folding}
use Rattle.plinq_run.specs.declared.aggregate_fault.AggregateFault.{AggregateFault}
use Rattle.plinq_run.specs.declared.aggregate_fault.AggregateFault.TheVariants.{Ended, Run}
use Rattle.plinq_run.specs.declared.run_fault.RunFault.{RunFault}

-- what is reported of an accumulator whose items' answer ended so
abbrev pub value_at : {T A O : Type 0} → Folding T A O → A → Ending → Result O AggregateFault
value_at f acc End = Ok (f.tell acc)
value_at f acc (Refused code) = Err (Ended (Refused code))
value_at f acc (Fault code) = Err (Ended (Fault code))

-- of a run with this outcome
abbrev pub value_of : {T A O : Type 0} → Folding T A O → A → Result Ending RunFault → Result O AggregateFault
value_of f acc (Ok e) = value_at f acc e
value_of f acc (Err fault) = Err (Run fault)
