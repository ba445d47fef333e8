-- What was written for a document, once a step after it has failed or the output is flushed.
use Rattle.std.proofs.Common.{◌≡◌, Bool, true, false, ℕ, ℤ, ◌+◌, ◌^◌, ◌<◌, List, [], Some, None, Result, Ok, Err, IfSome, refl, sym, subst, inl, inr, arith}
use Rattle.std.proofs.Common.{length, replicate}
use Rattle.std.specs.Io.KnownBytes.{Keeps}
use Rattle.std.proofs.KnownBytes.{Appends-kept, Keeps-refl, Keeps-trans}
use Rattle.std.proofs.Math.ListN.{length-replicate}
use Rattle.plinq_source.specs.declared.ending.Ending.{Ending}
use Rattle.std.specs.Prelude.{if◌then◌else◌}
use Rattle.plinq_document.specs.Jobs.{JobView}
use Rattle.plinq_document.specs.Document.{document_of}
use Rattle.plinq_document.proofs.DocumentText.{document_of-long}
use Rattle.plinq_document.specs.Results.{IfMeant}
use Rattle.plinq_document.specs.declared.doc_fault.DocFault.{DocFault}
use Rattle.plinq_document.specs.declared.doc_fault.DocFault.TheVariants.{TooLong, NotJson, Shape, Version, Source, Step, Memory as DocMemory, Growth}
use Rattle.std.specs.Result.{IsErr}
use Rattle.plinq_source.specs.Trace.{Trace}
use Rattle.plinq_lines.specs.Written.{AppendsBeginning}
use Rattle.plinq_lines.proofs.WrittenBytes.{Bytes, begins-all}
use Rattle.plinq_arguments.specs.declared.command.Command.{Command}
use Rattle.plinq_cli.specs.declared.failure.Failure.{Failure}
use Rattle.plinq_cli.specs.declared.failure.Failure.TheVariants.{Document, Memory, Read, Write, Thread, Tickets, Incomplete, Cancelled}
use Rattle.plinq_cli.specs.Served.{HasBegun, HasWritten, IsAnswer, IsText, Serves}
use Rattle.plinq_settings.specs.declared.settings.Settings.{Settings}
use Rattle.plinq_cli.specs.Performed.{Answers, AnswersMeaning, Flushes, IfDocument, IsMeant, failure_of_document, failure_of_input, failure_of_serve, unflushed}
use Rattle.plinq_partition.specs.declared.take_fault.TakeFault.TheVariants.{Memory as TakeMemory, Spent, Busy, Incomplete as RecordsMissing, Away}
use Rattle.plinq_run.specs.declared.run_fault.RunFault.TheVariants.{Memory as RunMemory, Sink as RunSink, Tickets as RunTickets, Thread as RunThread}
use Rattle.plinq_run.specs.declared.run_fault.RunFault.TheVariants.{Incomplete as RunIncomplete, Cancelled as RunCancelled}
use Rattle.plinq_cli.specs.declared.serve_fault.ServeFault.{ServeFault}
use Rattle.plinq_cli.specs.declared.serve_fault.ServeFault.TheVariants.{Memory as ServeMemory, Write as ServeWrite, Run as ServeRun, Take}
use Rattle.plinq_arguments.specs.declared.arguments.Arguments.{Arguments}
use Rattle.plinq_cli.specs.declared.input_fault.InputFault.{InputFault}
use Rattle.plinq_cli.specs.declared.input_fault.InputFault.TheVariants.{Read as InputRead, TooLong as InputTooLong, Memory as InputMemory}

-- a failure before anything was written, and one after a beginning of the lines
pub serves-unwritten : {E : Type 0} (plain : Bool) (command : Command) (job : JobView) (a : Bytes) (r : Result Ending E) → IsErr r
    → Serves plain command job a a r
serves-unwritten plain command job a (Ok e) failed = let bad : false ≡ true = failed in cc
serves-unwritten plain command job a (Err e) failed = inl (Keeps-refl a)

pub serves-begun : {E : Type 0} (plain : Bool) (command : Command) (job : JobView) (a b : Bytes) (r : Result Ending E) (u : Trace ℤ) (lines : List ℕ) → IsErr r
    → IsAnswer command job u → IsText plain command job u lines → AppendsBeginning a b lines → Serves plain command job a b r
serves-begun plain command job a b (Ok e) u lines failed is text begun = let bad : false ≡ true = failed in cc
serves-begun plain command job a b (Err e) u lines failed is text begun = inr (u, is, lines, text, begun)

-- out of memory, or a read that fails, before anything was written
pub unwritten-memory : (plain : Bool) (command : Command) (meaning : Result JobView DocFault) (a : Bytes)
    → AnswersMeaning plain command meaning a a (Err Memory)
unwritten-memory plain command (Ok job) a = (inl (Keeps-refl a), tt)
unwritten-memory plain command (Err why) a = (Keeps-refl a, tt)

unwritten-read : (plain : Bool) (command : Command) (meaning : Result JobView DocFault) (a : Bytes) → AnswersMeaning plain command meaning a a (Err Read)
unwritten-read plain command (Ok job) a = (inl (Keeps-refl a), tt)
unwritten-read plain command (Err why) a = (Keeps-refl a, tt)

-- a document that is refused
refused-as : (plain : Bool) (command : Command) (meaning : Result JobView DocFault) (a : Bytes) (e : DocFault) → meaning ≡ Err e
    → AnswersMeaning plain command meaning a a (Err (Document e))
refused-as plain command meaning a e is =
    let P : Result JobView DocFault → Type 0 = λ m. AnswersMeaning plain command m a a (Err (Document e)) in
    subst P (sym is) (Keeps-refl a, refl)

pub refused : (plain : Bool) (command : Command) (meaning : Result JobView DocFault) (a : Bytes) (e : DocFault) → IfMeant meaning e
    → AnswersMeaning plain command meaning a a (Err (failure_of_document e))
refused plain command meaning a DocMemory h = unwritten-memory plain command meaning a
refused plain command meaning a TooLong h = refused-as plain command meaning a TooLong (h (λ is. cc))
refused plain command meaning a NotJson h = refused-as plain command meaning a NotJson (h (λ is. cc))
refused plain command meaning a Shape h = refused-as plain command meaning a Shape (h (λ is. cc))
refused plain command meaning a Version h = refused-as plain command meaning a Version (h (λ is. cc))
refused plain command meaning a Source h = refused-as plain command meaning a Source (h (λ is. cc))
refused plain command meaning a (Growth why) h = refused-as plain command meaning a (Growth why) (h (λ is. cc))
refused plain command meaning a (Step at why) h = refused-as plain command meaning a (Step at why) (h (λ is. cc))

-- a command fails by nothing that the document is to blame for
not_by-document : (fault : ServeFault) → IfDocument (λ why. ⊥) (failure_of_serve fault)
not_by-document ServeMemory = tt
not_by-document ServeWrite = tt
not_by-document (ServeRun RunMemory) = tt
not_by-document (ServeRun (RunSink code)) = tt
not_by-document (ServeRun RunTickets) = tt
not_by-document (ServeRun RunThread) = tt
not_by-document (ServeRun RunIncomplete) = tt
not_by-document (ServeRun RunCancelled) = tt
not_by-document (Take TakeMemory) = tt
not_by-document (Take Spent) = tt
not_by-document (Take (Busy served drawn)) = tt
not_by-document (Take (RecordsMissing have all)) = tt
not_by-document (Take Away) = tt

-- a document that is answered, or not to its end
pub served : (plain : Bool) (command : Command) (a b : Bytes) {meaning : Result JobView DocFault} {job : JobView} {e : Ending} → meaning ≡ Ok job
    → HasWritten plain command job a b e → AnswersMeaning plain command meaning a b (Ok e)
served plain command a b {e = e} is written = subst (λ m. AnswersMeaning plain command m a b (Ok e)) (sym is) (written, tt)

pub failed : (plain : Bool) (command : Command) (a b : Bytes) {meaning : Result JobView DocFault} {job : JobView} (fault : ServeFault) → meaning ≡ Ok job
    → HasBegun plain command job a b
    → AnswersMeaning plain command meaning a b (Err (failure_of_serve fault))
failed plain command a b fault is begun = subst (λ m. AnswersMeaning plain command m a b (Err (failure_of_serve fault))) (sym is) (begun, not_by-document fault)

-- ---- an input that isn't read

-- some text that is longer than this
longer : (n : ℕ) → (bytes : List ℕ) × (n < length bytes)
longer n = (replicate (n + 1) 0, omega (arith, length-replicate {A = ℕ} (n + 1) 0))

-- any settings that are meant: of as many workers as cores there may be none
abbrev some_meant : Arguments → Settings
some_meant arguments = if arguments.cores then record arguments.settings { workers = None } else arguments.settings

is_meant : (arguments : Arguments) → IsMeant arguments (some_meant arguments)
is_meant arguments = (None, refl)

too_long : (arguments : Arguments) (a : Bytes) (bytes : List ℕ) → 2 ^ 24 < length bytes
    → AnswersMeaning arguments.plain arguments.command (document_of (some_meant arguments) bytes) a a (Err (Document TooLong))
too_long arguments a bytes long =
    refused-as arguments.plain arguments.command _ a TooLong (document_of-long (some_meant arguments) bytes long)

pub unread : (arguments : Arguments) (told a : Bytes) (e : InputFault) → (e ≡ InputTooLong → IfSome told (λ all. 2 ^ 24 < length all))
    → Answers arguments told a a (Err (failure_of_input e))
unread arguments None a InputRead long =
    ([], tt, some_meant arguments, is_meant arguments, unwritten-read arguments.plain arguments.command _ a)
unread arguments (Some all) a InputRead long =
    (all, refl, some_meant arguments, is_meant arguments, unwritten-read arguments.plain arguments.command _ a)
unread arguments None a InputMemory long =
    ([], tt, some_meant arguments, is_meant arguments, unwritten-memory arguments.plain arguments.command _ a)
unread arguments (Some all) a InputMemory long =
    (all, refl, some_meant arguments, is_meant arguments, unwritten-memory arguments.plain arguments.command _ a)
unread arguments None a InputTooLong long =
    let some = longer (2 ^ 24) in
    (some.0, tt, some_meant arguments, is_meant arguments, too_long arguments a some.0 some.1)
unread arguments (Some all) a InputTooLong long = (all, refl, some_meant arguments, is_meant arguments, too_long arguments a all (long refl))

-- ---- the output that is flushed

kept-begun : (plain : Bool) (command : Command) (job : JobView) (a b c : Bytes) → HasBegun plain command job a b → Keeps b c → HasBegun plain command job a c
kept-begun plain command job a b c (inl none) k = inl (Keeps-trans a b c none k)
kept-begun plain command job a b c (inr (u, is, lines, text, begun)) k = inr (u, is, lines, text, (begun.0, Appends-kept a b c _ begun.1 k))

kept : (plain : Bool) (command : Command) (meaning : Result JobView DocFault) (a b c : Bytes) (r : Result Ending Failure)
    → AnswersMeaning plain command meaning a b r → Keeps b c → AnswersMeaning plain command meaning a c r
kept plain command (Ok job) a b c (Ok e) ((u, is, lines, text, written, ends), none) k = ((u, is, lines, text, Appends-kept a b c _ written k, ends), tt)
kept plain command (Ok job) a b c (Err failure) h k = (kept-begun plain command job a b c h.0 k, h.1)
kept plain command (Err why) a b c (Ok e) h k = h
kept plain command (Err why) a b c (Err failure) h k = (Keeps-trans a b c h.0 k, h.1)

-- an answer of which the last of the output couldn't be written
unkept : (plain : Bool) (command : Command) (meaning : Result JobView DocFault) (a b : Bytes) (e : Ending)
    → AnswersMeaning plain command meaning a b (Ok e) → AnswersMeaning plain command meaning a b (Err Write)
unkept plain command (Ok job) a b e ((u, is, lines, text, written, ends), none) = (inr (u, is, lines, text, begins-all a b _ written), tt)
unkept plain command (Err why) a b e h = absurd h

-- the same of one that failed, which says nothing of the document then
unkept-so : (plain : Bool) (command : Command) (meaning : Result JobView DocFault) (a b : Bytes) (failure : Failure)
    → AnswersMeaning plain command meaning a b (Err failure) → AnswersMeaning plain command meaning a b (Err Write)
unkept-so plain command (Ok job) a b failure h = (h.0, tt)
unkept-so plain command (Err why) a b failure h = (h.0, tt)

unflushed-kept : (plain : Bool) (command : Command) (meaning : Result JobView DocFault) (a b : Bytes) (r : Result Ending Failure)
    → AnswersMeaning plain command meaning a b r → AnswersMeaning plain command meaning a b (unflushed r)
unflushed-kept plain command meaning a b (Ok e) h = unkept plain command meaning a b e h
unflushed-kept plain command meaning a b (Err Cancelled) h = unkept-so plain command meaning a b Cancelled h
unflushed-kept plain command meaning a b (Err (Document fault)) h = h
unflushed-kept plain command meaning a b (Err Memory) h = h
unflushed-kept plain command meaning a b (Err Read) h = h
unflushed-kept plain command meaning a b (Err Write) h = h
unflushed-kept plain command meaning a b (Err Thread) h = h
unflushed-kept plain command meaning a b (Err Tickets) h = h
unflushed-kept plain command meaning a b (Err Incomplete) h = h

pub flushed : (arguments : Arguments) (told a b c : Bytes) (r s : Result Ending Failure) → Answers arguments told a b r → Keeps b c → Flushes r s
    → Answers arguments told a c s
flushed arguments told a b c r s (bytes, of, settings, meant, h) k (inl same) =
    subst (Answers arguments told a c) (sym same) (bytes, of, settings, meant, kept arguments.plain arguments.command _ a b c r h k)
flushed arguments told a b c r s (bytes, of, settings, meant, h) k (inr failed) =
    subst (Answers arguments told a c) (sym failed) (
      bytes,
      of,
      settings,
      meant,
      unflushed-kept arguments.plain arguments.command _ a c r (kept arguments.plain arguments.command _ a b c r h k),
    )
