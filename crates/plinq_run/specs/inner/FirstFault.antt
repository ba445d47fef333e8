-- Which fault a run reports where it has several.
use Rattle.std.specs.Prelude.{◌≡◌, refl, Bool, true, false, not, ◌==◌, ◌||◌, if◌then◌else◌, Option, Some, None}
use Rattle.std.specs.Option.{option_or}
use Rattle.plinq_merge.specs.declared.merge_fault.MergeFault.{MergeFault}
use Rattle.plinq_merge.specs.declared.merge_fault.MergeFault.TheVariants.{Memory as NoMemory, Sink as Refusal, Twice, Gap, Failed, Cancelled}
use Rattle.plinq_crew.specs.declared.worker_count.WorkerCount.{WorkerCount}
use Rattle.plinq_run.specs.declared.run_fault.RunFault.{RunFault}
use Rattle.plinq_run.specs.declared.run_fault.RunFault.TheVariants.{Memory, Sink, Tickets, Thread, Incomplete}
use Rattle.plinq_crew.specs.declared.starting.WorkerFaults.{WorkerFaults}

-- the fault, if there is a cause for it
abbrev pub reported_if : Bool → RunFault → Option RunFault
reported_if is_cause fault = if is_cause then Some fault else None

abbrev pub refused_by_sink : Option MergeFault → Option RunFault
refused_by_sink None = None
refused_by_sink (Some NoMemory) = None
refused_by_sink (Some (Refusal code)) = Some (Sink code)
refused_by_sink (Some Twice) = None
refused_by_sink (Some Gap) = None
refused_by_sink (Some Failed) = None
refused_by_sink (Some Cancelled) = None

abbrev pub is_out_of_memory : Option MergeFault → Bool
is_out_of_memory None = false
is_out_of_memory (Some NoMemory) = true
is_out_of_memory (Some (Refusal code)) = false
is_out_of_memory (Some Twice) = false
is_out_of_memory (Some Gap) = false
is_out_of_memory (Some Failed) = false
is_out_of_memory (Some Cancelled) = false

-- a key came twice, or results are missing
abbrev pub is_incomplete : Option MergeFault → Bool
is_incomplete None = false
is_incomplete (Some NoMemory) = false
is_incomplete (Some (Refusal code)) = false
is_incomplete (Some Twice) = true
is_incomplete (Some Gap) = true
is_incomplete (Some Failed) = true
is_incomplete (Some Cancelled) = true

-- the first of sink, memory, thread, tickets and missing results for which there is a cause
abbrev pub first_reported : Option MergeFault → WorkerFaults → WorkerCount → Option RunFault
first_reported fault faults worker_count =
    option_or (refused_by_sink fault)
    (option_or (reported_if (is_out_of_memory fault || faults.memory) Memory)
    (option_or (reported_if (not (worker_count.started == worker_count.wanted)) Thread)
    (option_or (reported_if faults.tickets Tickets)
    (reported_if (is_incomplete fault) Incomplete))))

-- no worker had a fault, and all that were wanted were started
pub record AreSound (faults : WorkerFaults) (worker_count : WorkerCount) : Type 0 where
  pub memory : faults.memory ≡ false
  pub tickets : faults.tickets ≡ false
  pub started : worker_count.started ≡ worker_count.wanted

-- ---- worked rows

abbrev short_of : Bool → Bool → WorkerFaults
short_of memory tickets = record { memory = memory; tickets = tickets }

abbrev three_of_four : WorkerCount
three_of_four = record { wanted = 4; started = 3 }

abbrev all_four : WorkerCount
all_four = record { wanted = 4; started = 4 }

the_sink_comes_first : first_reported (Some (Refusal 9)) (short_of true true) three_of_four ≡ Some (Sink 9)
the_sink_comes_first = refl

memory_before_a_thread : first_reported None (short_of true false) three_of_four ≡ Some Memory
memory_before_a_thread = refl

the_mergers_memory_too : first_reported (Some NoMemory) (short_of false true) three_of_four ≡ Some Memory
the_mergers_memory_too = refl

a_thread_before_tickets : first_reported None (short_of false true) three_of_four ≡ Some Thread
a_thread_before_tickets = refl

tickets_before_what_they_bring_about : first_reported (Some Gap) (short_of false true) all_four ≡ Some Tickets
tickets_before_what_they_bring_about = refl

a_key_that_came_twice : first_reported (Some Twice) (short_of false false) all_four ≡ Some Incomplete
a_key_that_came_twice = refl

no_fault : first_reported None (short_of false false) all_four ≡ None
no_fault = refl
