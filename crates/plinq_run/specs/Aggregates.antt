-- What an aggregate reports, and what a sink that folds has.
use Rattle.std.specs.Prelude.{◌≡◌, ◌≢◌, Some, Result, Ok, Err}
use Rattle.plinq_source.specs.declared.ending.Ending.TheVariants.{End}
use Rattle.plinq_source.specs.Trace.{Trace}
use Rattle.plinq_aggregate.specs.Folding.{Folding, aggregate_value}
use Rattle.plinq_run.specs.declared.aggregate_fault.AggregateFault.{AggregateFault}
use Rattle.plinq_run.specs.declared.aggregate_fault.AggregateFault.TheVariants.{Ended, Run}
use Rattle.plinq_run.specs.Runs.{Other, cause_of}

-- an aggregate reports the value of this answer's items, which ended well; or how the answer ended, which isn't well; or why
-- there is none, which is never since a sink refused
abbrev pub Aggregates : {T A O : Type 0} → Folding T A O → Trace T → Result O AggregateFault → Type 0
Aggregates f u (Ok out) = (out ≡ aggregate_value f u.items) × (u.ending ≡ Some End)
Aggregates f u (Err (Ended e)) = (u.ending ≡ Some e) × (e ≢ End)
Aggregates f u (Err (Run fault)) = cause_of fault ≡ Other

-- the same, of one of these answers
abbrev pub AggregatesSome : {T A O : Type 0} → Folding T A O → (Trace T → Type 0) → Result O AggregateFault → Type 0
AggregatesSome {T} f IsAnswer r = (u : Trace T) × (IsAnswer u) × Aggregates f u r
