-- A fault of a partition, of a run or of its writer, as a command reports it, and which faults each command may have.
use Rattle.std.specs.Prelude.{◌≡◌, ◌≢◌, ℕ, ⊤, Result, Ok, Err}
use Rattle.plinq_source.specs.declared.ending.Ending.{Ending}
use Rattle.plinq_partition.specs.declared.take_fault.TakeFault.{TakeFault}
use Rattle.plinq_partition.specs.declared.take_fault.TakeFault.TheVariants.{Memory as NoMemory}
use Rattle.plinq_merge.specs.declared.delivery_fault.DeliveryFault.{DeliveryFault}
use Rattle.plinq_merge.specs.declared.delivery_fault.DeliveryFault.TheVariants.{Memory as DeliveryMemory, Sink as DeliverySink}
use Rattle.plinq_lines.specs.declared.write_fault.WriteFault.{WriteFault}
use Rattle.plinq_cli.specs.declared.serve_fault.ServeFault.{ServeFault}
use Rattle.plinq_run.specs.declared.report.Report.{Report}
use Rattle.plinq_run.specs.declared.run_fault.RunFault.{RunFault}
use Rattle.plinq_run.specs.declared.run_fault.RunFault.TheVariants.{Sink}
use Rattle.plinq_run.specs.Runs.{SinkRefused, cause_of}
use Rattle.plinq_arguments.specs.declared.command.Command.{Command}
use Rattle.plinq_arguments.specs.declared.command.Command.TheVariants.{Run as RunQuery, Plan, History}
use Rattle.plinq_cli.specs.declared.serve_fault.ServeFault.TheVariants.{Memory, Write, Run, Take}

-- memory that ran out is reported as the command's
abbrev pub serve_fault_of : TakeFault → ServeFault
serve_fault_of NoMemory = Memory
serve_fault_of fault = Take fault

-- a batch that the writer refused is a failing write
abbrev pub serve_fault_of_run : RunFault → ServeFault
serve_fault_of_run (Sink code) = Write
serve_fault_of_run fault = Run fault

-- what is reported of a run into a writer: a failing write before any fault of the run's own
abbrev pub told_of : Result ⊤ WriteFault → Result Report RunFault → Result Ending ServeFault
told_of (Err fault) reported = Err Write
told_of (Ok all) (Ok report) = Ok report.ending
told_of (Ok all) (Err fault) = Err (serve_fault_of_run fault)

-- the same of an answer on one thread
abbrev pub serve_fault_of_delivery : DeliveryFault → ServeFault
serve_fault_of_delivery DeliveryMemory = Memory
serve_fault_of_delivery (DeliverySink code) = Write

abbrev pub told_of_one : Result ⊤ WriteFault → Result Ending DeliveryFault → Result Ending ServeFault
told_of_one (Err fault) delivered = Err Write
told_of_one (Ok all) (Ok e) = Ok e
told_of_one (Ok all) (Err fault) = Err (serve_fault_of_delivery fault)

-- the faults of each command: `plan` takes no memory, and a run itself reports where memory runs out. Only `run` has a run
-- that breaks off, never since the writer took no more. Only `history` has partitions; out of memory there is the command's
abbrev pub MayFail : Command → ServeFault → Type 0
MayFail command Memory = (command ≢ RunQuery) × (command ≢ Plan)
MayFail command Write = ⊤
MayFail command (Run fault) = (command ≡ RunQuery) × ((code : ℕ) → cause_of fault ≢ SinkRefused code)
MayFail command (Take fault) = (command ≡ History) × (fault ≢ NoMemory)
