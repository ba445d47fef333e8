-- Combining: accumulators that are combined one after another, in the order in which results are joined.
use Rattle.std.specs.Prelude.{◌≡◌, ⊤, Option, Result, Ok, Err}
use Rattle.std.specs.List.{fold}
use Rattle.plinq_source.specs.declared.ending.Ending.{Ending}
use Rattle.plinq_source.specs.Trace.{Trace}
use Rattle.plinq_aggregate.specs.Folding.{Folding}
use Rattle.plinq_merge.specs.declared.delivery_fault.DeliveryFault.{DeliveryFault}
use Rattle.plinq_merge.specs.declared.delivery_fault.DeliveryFault.TheVariants.{Memory, Sink}
use Rattle.plinq_run.specs.declared.combiner.Combiner.{Combiner}

-- a trace was combined after an accumulator, and the answer ends as it does; only memory may run out
abbrev pub Combines : {T A O : Type 0} → Folding T A O → A → Trace A → Result (Option Ending) DeliveryFault → A → Type 0
Combines f acc t (Ok e) acc' = (t.ending ≡ e) × (acc' ≡ fold f.combine acc t.items)
Combines f acc t (Err Memory) acc' = ⊤
Combines f acc t (Err (Sink code)) acc' = ⊥

-- by the same aggregator
pub record MadeBy {F T A O : Type 0} (folding : F → Folding T A O) (d : Combiner F) (acc : A) (t : Trace A) (r : Result (Option Ending) DeliveryFault)
    (d' : Combiner F) (acc' : A) : Type 0 where
  pub same : d'.aggregator ≡ d.aggregator
  pub combines : Combines (folding d.aggregator.now) acc t r acc'
