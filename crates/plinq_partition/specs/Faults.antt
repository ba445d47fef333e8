-- A lock's faults, as a partition reports them.
use Rattle.std.specs.Prelude.{◌≡◌, refl}
use Rattle.plinq_ticket.specs.declared.lock_fault.LockFault.{LockFault}
use Rattle.plinq_ticket.specs.declared.lock_fault.LockFault.TheVariants.{Spent, Busy, Incomplete, Memory, Away}
use Rattle.plinq_partition.specs.declared.take_fault.TakeFault.{TakeFault}
use Rattle.plinq_partition.specs.declared.take_fault.TakeFault.TheVariants.{Memory as NoMemory, Spent as TicketsSpent, Busy as OthersFirst}
use Rattle.plinq_partition.specs.declared.take_fault.TakeFault.TheVariants.{Incomplete as RecordsMissing, Away as NotThere}

abbrev pub take_fault_of : LockFault → TakeFault
take_fault_of Spent = TicketsSpent
take_fault_of (Busy served drawn) = OthersFirst served drawn
take_fault_of (Incomplete have all) = RecordsMissing have all
take_fault_of Memory = NoMemory
take_fault_of Away = NotThere

row_spent : take_fault_of Spent ≡ TicketsSpent
row_spent = refl

row_busy : take_fault_of (Busy 3 5) ≡ OthersFirst 3 5
row_busy = refl

row_incomplete : take_fault_of (Incomplete 1 2) ≡ RecordsMissing 1 2
row_incomplete = refl

row_memory : take_fault_of Memory ≡ NoMemory
row_memory = refl

row_away : take_fault_of Away ≡ NotThere
row_away = refl
