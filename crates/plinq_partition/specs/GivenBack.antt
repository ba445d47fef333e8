-- What becomes of the enumerator when partitions are given back.
use Rattle.std.specs.Prelude.{◌≡◌, List, [], ◌∷◌, Option, Result, Ok, Err}
use Rattle.plinq_source.specs.declared.source.Source.{Ghosts}
use Rattle.plinq_source.specs.Trace.{Trace, open_trace}
use Rattle.plinq_enumerator.specs.declared.enumerator.Enumerator.{Enumerator}
use Rattle.plinq_enumerator.specs.Held.{held_source, held_records}
use Rattle.plinq_ticket.specs.declared.lock_fault.LockFault.{LockFault}
use Rattle.plinq_ticket.specs.declared.pass.Token.{Token}
use Rattle.plinq_ticket.specs.Passes.{pass_origin, pass_share}
use Rattle.plinq_ticket.specs.Finished.{IsFinished}
use Rattle.plinq_partition.specs.declared.partition.Partition.{Partition}
use Rattle.plinq_partition.specs.declared.take_fault.TakeFault.{TakeFault}
use Rattle.plinq_partition.specs.Faults.{take_fault_of}
use Rattle.plinq_partition.specs.Partitions.{holding_of, all_shares}

-- the lock's answer, as it is reported
abbrev pub reported_answer : {V : Type 0} → Result V (Option V × LockFault) → Result V (Option V × TakeFault)
reported_answer (Ok value) = Ok value
reported_answer (Err refused) = Err (refused.0, take_fault_of refused.1)

module _ {S T : Type 0} {source : Ghosts S T} where
  -- what the source of the first partition hands out, or that where there is none
  abbrev pub first_origin : Trace T → List (Partition S T source) → Trace T
  first_origin t [] = t
  first_origin t (p ∷ ps) = (holding_of p).origin

  -- what the source of some partitions hands out
  abbrev pub common_origin : List (Partition S T source) → Trace T
  common_origin ps = first_origin (open_trace []) ps

  -- The lock was taken apart with all their records: the enumerator is reported whole exactly where these are all it has
  pub record IsGivenBack (ps : List (Partition S T source)) (result : Result (Enumerator S T source)
      (Option (Enumerator S T source) × TakeFault)) : Type 0 where
    pub pass : Token (Enumerator S T source) T
    pub origin : pass_origin pass ≡ common_origin ps
    pub share : pass_share pass ≡ all_shares ps
    pub finished : Result (Enumerator S T source) (Option (Enumerator S T source) × LockFault)
    pub is_finished : IsFinished (λ e. source.whole (held_source e)) held_records pass finished
    pub result_is : result ≡ reported_answer finished
