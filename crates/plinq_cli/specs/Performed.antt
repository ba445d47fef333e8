-- What the program does with a document, and the status that it ends with.
use Rattle.std.specs.Prelude.{◌≡◌, ℕ, Bool, true, false, List, Option, if◌then◌else◌, Result, Ok, Err, IfSome, IfErr, ⊤, ◌⊎◌, refl}
use Rattle.std.specs.Io.KnownBytes.{Keeps}
use Rattle.clap.specs.declared.error.kind.ErrorKind.{ErrorKind}
use Rattle.clap.specs.declared.error.kind.ErrorKind.TheVariants.{DisplayHelp, DisplayVersion, OutOfMemory}
use Rattle.plinq_source.specs.declared.ending.Ending.{Ending}
use Rattle.plinq_source.specs.declared.ending.Ending.TheVariants.{End, Refused, Fault}
use Rattle.plinq_document.specs.Jobs.{JobView}
use Rattle.plinq_document.specs.Document.{document_of}
use Rattle.plinq_document.specs.declared.doc_fault.DocFault.{DocFault}
use Rattle.plinq_document.specs.declared.doc_fault.DocFault.TheVariants.{TooLong, NotJson, Memory as DocMemory}
use Rattle.plinq_partition.specs.declared.take_fault.TakeFault.{TakeFault}
use Rattle.plinq_partition.specs.declared.take_fault.TakeFault.TheVariants.{Memory as TakeMemory, Spent, Busy, Incomplete as RecordsMissing, Away}
use Rattle.plinq_run.specs.declared.run_fault.RunFault.{RunFault}
use Rattle.plinq_run.specs.declared.run_fault.RunFault.TheVariants.{Memory as RunMemory, Sink as RunSink, Tickets as RunTickets, Thread as RunThread}
use Rattle.plinq_run.specs.declared.run_fault.RunFault.TheVariants.{Incomplete as RunIncomplete, Cancelled as RunCancelled}
use Rattle.plinq_arguments.specs.declared.command.Command.{Command}
use Rattle.plinq_cli.specs.declared.input_fault.InputFault.{InputFault}
use Rattle.plinq_cli.specs.declared.input_fault.InputFault.TheVariants.{Read as InputRead, TooLong as InputTooLong, Memory as InputMemory}
use Rattle.plinq_cli.specs.declared.serve_fault.ServeFault.{ServeFault}
use Rattle.plinq_cli.specs.declared.serve_fault.ServeFault.TheVariants.{Memory as ServeMemory, Write as ServeWrite, Run as ServeRun, Take}
use Rattle.plinq_cli.specs.declared.failure.Failure.{Failure}
use Rattle.plinq_cli.specs.declared.failure.Failure.TheVariants.{Document, Memory, Read, Write, Thread, Tickets, Incomplete, Cancelled}
use Rattle.plinq_arguments.specs.declared.arguments.Arguments.{Arguments}
use Rattle.plinq_arguments.specs.Arguments.{IsAsked, Refuses}
use Rattle.plinq_settings.specs.declared.settings.Settings.{Settings}
use Rattle.plinq_cli.specs.Served.{Serves}

abbrev pub failure_of_document : DocFault → Failure
failure_of_document DocMemory = Memory
failure_of_document fault = Document fault

abbrev pub failure_of_input : InputFault → Failure
failure_of_input InputRead = Read
failure_of_input InputTooLong = Document TooLong
failure_of_input InputMemory = Memory

abbrev pub failure_of_take : TakeFault → Failure
failure_of_take TakeMemory = Memory
failure_of_take Spent = Tickets
failure_of_take (Busy served drawn) = Tickets
failure_of_take (RecordsMissing have all) = Incomplete
failure_of_take Away = Incomplete

abbrev pub failure_of_run : RunFault → Failure
failure_of_run RunMemory = Memory
failure_of_run (RunSink code) = Write
failure_of_run RunTickets = Tickets
failure_of_run RunThread = Thread
failure_of_run RunIncomplete = Incomplete
failure_of_run RunCancelled = Cancelled

abbrev pub failure_of_serve : ServeFault → Failure
failure_of_serve ServeMemory = Memory
failure_of_serve ServeWrite = Write
failure_of_serve (ServeRun fault) = failure_of_run fault
failure_of_serve (Take fault) = failure_of_take fault

-- where a failure speaks of the document, it says this fault
abbrev pub IfDocument : (DocFault → Type 0) → Failure → Type 0
IfDocument P (Document fault) = P fault
IfDocument P Memory = ⊤
IfDocument P Read = ⊤
IfDocument P Write = ⊤
IfDocument P Thread = ⊤
IfDocument P Tickets = ⊤
IfDocument P Incomplete = ⊤
IfDocument P Cancelled = ⊤

-- a document that is refused has no answer and no text, and the failure says why it is refused
abbrev pub RefusesDocument : DocFault → Option (List ℕ) → Option (List ℕ) → Result Ending Failure → Type 0
RefusesDocument why old new (Ok e) = ⊥
RefusesDocument why old new (Err failure) = Keeps old new × IfDocument (λ fault. fault ≡ why) failure

-- what the program does with a document of this meaning: it answers the job, and fails by nothing that the document is to blame for, or it refuses it
abbrev pub AnswersMeaning : Bool → Command → Result JobView DocFault → Option (List ℕ) → Option (List ℕ) → Result Ending Failure → Type 0
AnswersMeaning plain command (Ok job) old new r = Serves plain command job old new r × IfErr r (IfDocument (λ fault. ⊥))
AnswersMeaning plain command (Err why) old new r = RefusesDocument why old new r

-- these are the settings that the arguments ask for; if they ask for cores, with any number of workers
abbrev pub IsMeant : Arguments → Settings → Type 0
IsMeant arguments settings = (n : Option ℕ) × (settings ≡ (if arguments.cores then record arguments.settings { workers = n } else arguments.settings))

-- what it does with the bytes that it reads: those of the reader, where this reports them
abbrev pub Answers : Arguments → Option (List ℕ) → Option (List ℕ) → Option (List ℕ) → Result Ending Failure → Type 0
Answers arguments told old new r = (bytes : List ℕ) × IfSome told (λ all. bytes ≡ all)
    × (settings : Settings) × IsMeant arguments settings × AnswersMeaning arguments.plain arguments.command (document_of settings bytes) old new r

-- what is answered where a flush failed: a failing write, also after a cancelled run, but what failed before it is answered
abbrev pub unflushed : Result Ending Failure → Result Ending Failure
unflushed (Ok e) = Err Write
unflushed (Err Cancelled) = Err Write
unflushed (Err failure) = Err failure

-- what is answered once the output was flushed, or couldn't be
abbrev pub Flushes : Result Ending Failure → Result Ending Failure → Type 0
Flushes before after = (after ≡ before) ⊎ (after ≡ unflushed before)

-- the status: 0 at the end, 2 for a refused document, 3 for a refusal of the source, 4 for a fault, 5 for anything else
abbrev pub failure_status : Failure → ℕ
failure_status (Document fault) = 2
failure_status Memory = 5
failure_status Read = 5
failure_status Write = 5
failure_status Thread = 5
failure_status Tickets = 5
failure_status Incomplete = 5
failure_status Cancelled = 5

-- the status of an answer that ended so
abbrev pub ending_status : Ending → ℕ
ending_status End = 0
ending_status (Refused code) = 3
ending_status (Fault code) = 4

-- the status of a command that ended or failed so
abbrev pub status_of : Result Ending Failure → ℕ
status_of (Ok e) = ending_status e
status_of (Err failure) = failure_status failure

-- what was written and the status, where the words are these arguments: those of an answer of the document
abbrev pub Performs : Arguments → Option (List ℕ) → Option (List ℕ) → Option (List ℕ) → ℕ → Type 0
Performs arguments told old new status = (r : Result Ending Failure) × Answers arguments told old new r × (status ≡ status_of r)

-- what `clap` has to say: memory ran out, help is written, or the words are refused and nothing is written
abbrev pub Shows : ErrorKind → Option (List ℕ) → Option (List ℕ) → ℕ → Type 0
Shows OutOfMemory old new status = (status ≡ 5) × Keeps old new
Shows DisplayHelp old new status = (status ≡ 0) ⊎ (status ≡ 5)
Shows DisplayVersion old new status = (status ≡ 0) ⊎ (status ≡ 5)
Shows _ old new status = (status ≡ 2) × Keeps old new

-- what the program does on these words and the reader's bytes: the answer of the document for what the words ask for, or what `clap` has to say of the words
abbrev pub PerformsWords : List (List ℕ) → Option (List ℕ) → Option (List ℕ) → Option (List ℕ) → ℕ → Type 0
PerformsWords words told old new status =
    ((arguments : Arguments) × IsAsked words arguments × Performs arguments told old new status)
    ⊎ ((kind : ErrorKind) × Refuses words kind × Shows kind old new status)

-- nothing is written of what is wrong, unless the status is that of a failure, or that of an ending that a plain answer doesn't have
abbrev pub IsSilent : Bool → Option (List ℕ) → Option (List ℕ) → ℕ → Type 0
IsSilent plain old new status = (status ≡ 2) ⊎ ((status ≡ 5) ⊎ (Keeps old new ⊎ ((plain ≡ true) × ((status ≡ 3) ⊎ (status ≡ 4)))))

-- of words as well: only a plain answer is one of words that ask for it
abbrev pub IsSilentOn : List (List ℕ) → Option (List ℕ) → Option (List ℕ) → ℕ → Type 0
IsSilentOn words old new status = IsSilent false old new status
    ⊎ ((arguments : Arguments) × IsAsked words arguments × IsSilent arguments.plain old new status)

-- ---- worked rows

pub at_the_end : status_of (Ok End) ≡ 0
at_the_end = refl

pub at_a_refused_document : status_of (Err (Document NotJson)) ≡ 2
at_a_refused_document = refl

pub at_a_refusal : status_of (Ok (Refused 7)) ≡ 3
at_a_refusal = refl

pub at_a_fault : status_of (Ok (Fault 1)) ≡ 4
at_a_fault = refl

pub out_of_memory : status_of (Err (failure_of_serve ServeMemory)) ≡ 5
out_of_memory = refl

pub out_of_memory_for_the_document : status_of (Err (failure_of_document DocMemory)) ≡ 5
out_of_memory_for_the_document = refl

pub at_a_failing_read : status_of (Err (failure_of_input InputRead)) ≡ 5
at_a_failing_read = refl

pub at_a_long_input : status_of (Err (failure_of_input InputTooLong)) ≡ 2
at_a_long_input = refl

pub at_a_failing_write : status_of (Err (failure_of_serve ServeWrite)) ≡ 5
at_a_failing_write = refl

pub without_a_thread : status_of (Err (failure_of_serve (ServeRun RunThread))) ≡ 5
without_a_thread = refl

pub at_a_cancelled_run : status_of (Err (failure_of_serve (ServeRun RunCancelled))) ≡ 5
at_a_cancelled_run = refl

pub at_a_cancelled_run_unflushed : unflushed (Err (failure_of_serve (ServeRun RunCancelled))) ≡ Err Write
at_a_cancelled_run_unflushed = refl

pub out_of_memory_unflushed : unflushed (Err (failure_of_serve (ServeRun RunMemory))) ≡ Err Memory
out_of_memory_unflushed = refl

pub at_spent_tickets : status_of (Err (failure_of_serve (Take Spent))) ≡ 5
at_spent_tickets = refl

pub at_missing_records : status_of (Err (failure_of_serve (Take (RecordsMissing 1 2)))) ≡ 5
at_missing_records = refl
