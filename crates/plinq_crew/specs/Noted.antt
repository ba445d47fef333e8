-- Why workers ended before they saw a tail.
use Rattle.std.specs.Prelude.{◌≡◌, ◌||◌, if◌then◌else◌, Bool, true, false}
use Rattle.plinq_partition.specs.declared.take_fault.TakeFault.{TakeFault}
use Rattle.plinq_partition.specs.declared.take_fault.TakeFault.TheVariants.{Memory as NoRoom, Spent, Busy, Incomplete as NotAll, Away}
use Rattle.plinq_crew.specs.declared.starting.WorkerFaults.{WorkerFaults}

-- a worker's fault that is one of memory; each other one is of its tickets
abbrev pub lacks_room : TakeFault → Bool
lacks_room NoRoom = true
lacks_room Spent = false
lacks_room (Busy served drawn) = false
lacks_room (NotAll have all) = false
lacks_room Away = false

-- whether any worker's fault was noted
abbrev pub has_worker_fault : WorkerFaults → Bool
has_worker_fault faults = faults.memory || faults.tickets

-- whether this fault was noted as what it is
abbrev pub has_noted : WorkerFaults → TakeFault → Bool
has_noted faults fault = if lacks_room fault then faults.memory else faults.tickets

-- what was noted stays noted
abbrev pub StaysNoted : WorkerFaults → WorkerFaults → Type 0
StaysNoted faults faults' = (faults.memory ≡ true → faults'.memory ≡ true) × (faults.tickets ≡ true → faults'.tickets ≡ true)
