-- What is reported of a run once its workers were joined.
use Rattle.std.specs.Prelude.{◌≡◌, List, Option, Some, None}
use Rattle.plinq_source.specs.declared.ending.Ending.{Ending}
use Rattle.plinq_source.specs.declared.source.Source.{Ghosts}
use Rattle.plinq_keyed.specs.History.{IsLegalHistory}
use Rattle.plinq_ticket.specs.Shares.{in_ticket_order}
use Rattle.plinq_partition.specs.declared.partition.Partition.{Partition}
use Rattle.plinq_partition.specs.GivenBack.{common_origin}
use Rattle.plinq_partition.specs.Partitions.{all_shares}
use Rattle.plinq_merge.specs.declared.merge_fault.MergeFault.{MergeFault}
use Rattle.plinq_merge.specs.declared.merge_fault.MergeFault.TheVariants.{Memory as NoMemory, Sink as Refusal, Twice, Gap, Failed, Cancelled as Cancels}
use Rattle.plinq_run.specs.declared.report.Report.{Report}
use Rattle.plinq_run.specs.Runs.{Cause, SinkRefused, Other}

-- what a merger's fault says of the batches that weren't delivered
abbrev pub cause_in_merge : Option MergeFault → Cause
cause_in_merge None = Other
cause_in_merge (Some (Refusal code)) = SinkRefused code
cause_in_merge (Some NoMemory) = Other
cause_in_merge (Some Twice) = Other
cause_in_merge (Some Gap) = Other
cause_in_merge (Some Failed) = Other
cause_in_merge (Some Cancels) = Other

-- the report of an answer that ended so, once the workers had these partitions: all their records, which are a legal history
pub record IsReportOf {S T : Type 0} {source : Ghosts S T} (e : Ending) (partitions : List (Partition S T source)) (report : Report) : Type 0 where
  pub ending : report.ending ≡ e
  pub records : report.records.items ≡ in_ticket_order (all_shares partitions)
  pub legal : IsLegalHistory (common_origin partitions) report.records.items
