-- What is left of a run whose workers were joined.
use Rattle.std.specs.Prelude.{◌≡◌, Some, None, Result, Ok, IfOk, IfErr, OnOk}
use Rattle.std.specs.Option.{option_or}
use Rattle.plinq_source.specs.declared.source.Source.{Ghosts as SourceGhosts}
use Rattle.plinq_merge.specs.Joiners.{taker_of, ending_of}
use Rattle.plinq_crew.specs.declared.conducting.Returned.{Returned}
use Rattle.plinq_run.specs.declared.accepting.Merging.{Merging}
use Rattle.plinq_run.specs.declared.planning.Ended.{Ended}
use Rattle.plinq_run.specs.declared.run_fault.RunFault.{RunFault}
use Rattle.plinq_run.specs.declared.run_fault.RunFault.TheVariants.{Incomplete}
use Rattle.plinq_run.specs.Runs.{cause_of}
use Rattle.plinq_run.specs.inner.FirstFault.{first_reported, AreSound}
use Rattle.plinq_run.specs.inner.Reported.{cause_in_merge}

-- the answer's ending and what has taken its items, where there was no fault, or the first of all faults
pub record Finishes {S U W T : Type 0} {source : SourceGhosts S U} (merging : Merging W T) (back : Returned S U source)
    (result : Result (Ended S W U source) RunFault) : Type 0 where
  pub none : OnOk result (merging.fault ≡ None)
  pub first : OnOk result (first_reported merging.fault back.worker_faults back.worker_count ≡ None)
  pub sound : OnOk result (AreSound back.worker_faults back.worker_count)
  pub taker : IfOk result (λ ended. ended.joined.taker ≡ taker_of merging.joiner)
  pub ending : IfOk result (λ ended. ending_of merging.joiner ≡ Ok ended.joined.ending)
  pub partitions : IfOk result (λ ended. ended.partitions ≡ back.partitions)
  pub err : IfErr result (λ fault. cause_of fault ≡ cause_in_merge merging.fault)
  pub told : IfErr result (λ fault. option_or (first_reported merging.fault back.worker_faults back.worker_count) (Some Incomplete) ≡ Some fault)
