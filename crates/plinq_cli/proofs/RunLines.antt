-- What a run by threads reports, and has written: the lines of an answer's batches, or where it broke off those of the first.
use Rattle.std.specs.Prelude.{⊤}
use Rattle.std.proofs.Common.{◌≡◌, ◌≢◌, Bool, ℕ, ◌<◌, ℤ, List, ◌++◌, length, Option, Some, None, IfSome, Result, Ok, Err, refl, ap, sym, ◌∙◌, subst}
use Rattle.std.specs.List.{flat_map}
use Rattle.std.specs.Result.{IsErr}
use Rattle.std.specs.Io.KnownBytes.{Appends, Keeps}
use Rattle.std.proofs.KnownBytes.{Appends-kept, Appends-trans}
use Rattle.std.proofs.lemmas.Grind.{flat_map-append}
use Rattle.plinq_source.specs.declared.ending.Ending.{Ending}
use Rattle.plinq_source.specs.Trace.{Trace}
use Rattle.plinq_lambda.specs.Formula.{formula_meaning}
use Rattle.plinq_lambda.specs.declared.formula.Formula.{Formula}
use Rattle.plinq_merge.specs.declared.merge_fault.MergeFault.TheVariants.{Sink as Refusal}
use Rattle.plinq_merge.specs.Sending.{Leads}
use Rattle.plinq_ops.specs.declared.merge_option.MergeOption.{MergeOption}
use Rattle.plinq_ops.specs.declared.op.Op.{Op}
use Rattle.plinq_ops.specs.Answer.{MayAnswer}
use Rattle.plinq_ops.specs.Batches.{batches}
use Rattle.plinq_ops.specs.Query.{QueryView, merge_in_force}
use Rattle.plinq_run.specs.declared.report.Report.{Report}
use Rattle.plinq_run.specs.declared.run_fault.RunFault.{RunFault}
use Rattle.plinq_run.specs.declared.run_fault.RunFault.TheVariants.{Memory as RunMemory, Sink, Tickets, Thread, Incomplete, Cancelled}
use Rattle.plinq_run.specs.Endings.{reported_ending}
use Rattle.plinq_run.specs.Runs.{Runs, SinkRefused, cause_of}
use Rattle.plinq_document.specs.Jobs.{JobView}
use Rattle.plinq_lines.specs.declared.write_fault.WriteFault.{WriteFault}
use Rattle.plinq_lines.specs.LineSink.{Lines, TakesLine, RefusesLine}
use Rattle.plinq_lines.specs.AnswerText.{batch_line}
use Rattle.plinq_lines.specs.Written.{AppendsBeginning}
use Rattle.plinq_lines.proofs.LinesTaken.{taken-lines, short-lines}
use Rattle.plinq_lines.proofs.WrittenBytes.{Bytes, appends-as, begins-all, begins-after, begins-append, begins-as}
use Rattle.plinq_arguments.specs.declared.command.Command.TheVariants.{Run}
use Rattle.plinq_cli.specs.declared.serve_fault.ServeFault.{ServeFault}
use Rattle.plinq_cli.specs.declared.serve_fault.ServeFault.TheVariants.{Memory, Write, Run as NoRun, Take}
use Rattle.plinq_cli.specs.ServeFaults.{MayFail, serve_fault_of_run, told_of}
use Rattle.plinq_cli.specs.Served.{batch_lines, CountsIf, Delivers, EndsInTime, HasDelivered, HasFailed, HasBrokenOff, HasWritten, IsText}
use Rattle.plinq_cli.specs.Served.{LeavesLines, LeavesWholeLines, Serves}
use Rattle.plinq_cli.specs.inner.StoppedRun.{Leaves}
use Rattle.plinq_cli.specs.Told.{last_line, told_text}
use Rattle.plinq_cli.proofs.Flushed.{serves-begun}

-- ---- which answer it is

-- a run to a sink of lines ended so with fewer batches or broke off, or it was cancelled after so many
abbrev RunsOrStops : MergeOption → Option ℕ → Trace ℤ → Lines → Lines → Result Ending RunFault → Type 0
RunsOrStops option most u s s' (Err Cancelled) =
    (sent : List (List ℤ)) × (rest : List (List ℤ)) × (batches option u ≡ sent ++ rest) × (most ≡ Some (length sent)) × Leads TakesLine s sent s'
RunsOrStops option most u s s' (Ok e) = Runs TakesLine RefusesLine option u s s' (Ok e) × IfSome most (λ n. length (batches option u) < n)
RunsOrStops option most u s s' r = Runs TakesLine RefusesLine option u s s' r

-- a run to a sink of lines, of some answer that threads may give
pub record HasSome (ordered : Bool) (ops : List (Op Formula)) (option : MergeOption) (most : Option ℕ) (t : Trace ℤ) (s s' : Lines)
    (r : Result Ending RunFault) : Type 0 where
  pub answer : Trace ℤ
  pub may : MayAnswer formula_meaning ordered ops t answer
  pub runs : RunsOrStops option most answer s s' r

some-answer : (ordered : Bool) (ops : List (Op Formula)) (option : MergeOption) (most : Option ℕ) (t : Trace ℤ) (s s' : Lines) (r : Result Report RunFault)
    → Leaves TakesLine RefusesLine option (MayAnswer formula_meaning ordered ops) t most s s' r → HasSome ordered ops option most t s s' (reported_ending r)
some-answer ordered ops option most t s s' (Ok report) (h, fewer) = record { answer = h.answer; may = h.may; runs = (h.has_run, fewer) }
some-answer ordered ops option most t s s' (Err Cancelled) h = record { answer = h.answer; may = h.may; runs = (h.sent, h.rest, h.first, h.number, h.leads) }
some-answer ordered ops option most t s s' (Err (Sink code)) h = record { answer = h.answer; may = h.may; runs = h.broken }
some-answer ordered ops option most t s s' (Err RunMemory) h = record { answer = h.answer; may = h.may; runs = h.broken }
some-answer ordered ops option most t s s' (Err Tickets) h = record { answer = h.answer; may = h.may; runs = h.broken }
some-answer ordered ops option most t s s' (Err Thread) h = record { answer = h.answer; may = h.may; runs = h.broken }
some-answer ordered ops option most t s s' (Err Incomplete) h = record { answer = h.answer; may = h.may; runs = h.broken }

-- ---- what the sink took is written, and the writer comes back as it is

module _ (q : QueryView Formula) (t : Trace ℤ) (most : Option ℕ) (a b : Bytes) (s s' : Lines) (start : s.bytes ≡ a) (keeps : Keeps s'.bytes b) where
  appended : (bytes : List ℕ) → Appends s.bytes s'.bytes bytes → Appends a b bytes
  appended bytes h = let P : Bytes → Type 0 = λ x. Appends x b bytes in subst P start (Appends-kept s.bytes s'.bytes b bytes h keeps)

  ran-delivered : (e : Ending) → HasSome q.ordered q.ops (merge_in_force q.merge) most t s s' (Ok e) → HasDelivered q t a b most e × (s'.writer ≡ s.writer)
  ran-delivered e h =
      let run = h.runs.0 in
      let taken = taken-lines s s' _ run.delivered in (
        record { answer = h.answer; may = h.may; fewer = h.runs.1; lines = appended _ taken.0; ending = run.ending },
        taken.1,
      )

  -- none was refused
  stopped : (fault : RunFault) → ((code : ℕ) → cause_of fault ≢ SinkRefused code)
      → (h : HasSome q.ordered q.ops (merge_in_force q.merge) most t s s' (Err fault))
      → (sent : List (List ℤ)) × (rest : List (List ℤ)) × (batches (merge_in_force q.merge) h.answer ≡ sent ++ rest) × CountsIf fault most (length sent)
      × Leads TakesLine s sent s'
      → (((code : ℕ) → cause_of fault ≢ SinkRefused code) × HasBrokenOff q t a b most fault) × (s'.writer ≡ s.writer)
  stopped fault none h (sent, rest, first, number, leads) =
      let taken = taken-lines s s' sent leads in (
        (none, record { answer = h.answer; may = h.may; sent = sent; rest = rest; first = first; number = number; lines = appended _ taken.0 }),
        taken.1,
      )

  broken : (fault : RunFault) → HasSome q.ordered q.ops (merge_in_force q.merge) most t s s' (Err fault)
      → Delivers q t a b most (Err (serve_fault_of_run fault)) × (s'.writer ≡ s.writer)
  broken RunMemory h = stopped RunMemory (λ code bad. cc) h (h.runs.0, h.runs.1, h.runs.2, tt, h.runs.3)
  broken Tickets h = stopped Tickets (λ code bad. cc) h (h.runs.0, h.runs.1, h.runs.2, tt, h.runs.3)
  broken Thread h = stopped Thread (λ code bad. cc) h (h.runs.0, h.runs.1, h.runs.2, tt, h.runs.3)
  broken Incomplete h = stopped Incomplete (λ code bad. cc) h (h.runs.0, h.runs.1, h.runs.2, tt, h.runs.3)
  broken Cancelled h = stopped Cancelled (λ code bad. cc) h h.runs
  broken (Sink code) h =
      let short = short-lines s s' _ (Refusal code) h.runs in (
        record { answer = h.answer; may = h.may; begun = (short.0.0, appended _ short.0.1) },
        short.1,
      )

module _ (q : QueryView Formula) (t : Trace ℤ) (a b : Bytes) where
  -- a flush that failed after the last batch
  unflushed : (most : Option ℕ) (e : Ending) → HasDelivered q t a b most e → HasFailed q t a b
  unflushed most e h = record { answer = h.answer; may = h.may; begun = begins-all a b _ h.lines }

  -- where a run failed, a beginning of the lines of its batches is written
  first-begun : (most : Option ℕ) (fault : RunFault) → HasBrokenOff q t a b most fault → HasFailed q t a b
  first-begun most fault h =
      let begun = begins-append a b _ (flat_map batch_line h.rest) (begins-all a b _ h.lines) in
      record {
        answer = h.answer;
        may = h.may;
        begun = begins-as a b _ _ (sym (flat_map-append batch_line h.sent h.rest)
            ∙ ap (flat_map batch_line) (sym h.first)) begun;
      }

  failed-begun : (most : Option ℕ) (fault : ServeFault) → Delivers q t a b most (Err fault) → HasFailed q t a b
  failed-begun most (NoRun fault) h = first-begun most fault h.1
  failed-begun most Memory h = absurd h
  failed-begun most Write h = h
  failed-begun most (Take fault) h = absurd h

-- what is reported of a run where its writer has failed or not
module _ (q : QueryView Formula) (t : Trace ℤ) (most : Option ℕ) (a b : Bytes) (s s' : Lines) (start : s.bytes ≡ a) (keeps : Keeps s'.bytes b) where
  abbrev Told : Result Ending ServeFault → Type 0
  Told r = Delivers q t a b most r × (s'.writer ≡ s.writer)

  tells : (written : Result ⊤ WriteFault) (r : Result Report RunFault)
      → HasSome q.ordered q.ops (merge_in_force q.merge) most t s s' (reported_ending r) → Told (told_of written r)
  tells (Ok all) (Ok report) h = ran-delivered q t most a b s s' start keeps report.ending h
  tells (Ok all) (Err fault) h = broken q t most a b s s' start keeps fault h
  tells (Err failed) (Ok report) h =
      let both = ran-delivered q t most a b s s' start keeps report.ending h in
      (unflushed q t a b most report.ending both.0, both.1)
  tells (Err failed) (Err fault) h =
      let both = broken q t most a b s s' start keeps fault h in
      (failed-begun q t a b most (serve_fault_of_run fault) both.0, both.1)

  pub told-delivered : (written : Result ⊤ WriteFault) (r : Result Report RunFault) (told : Result Ending ServeFault) → told ≡ told_of written r
      → Leaves TakesLine RefusesLine (merge_in_force q.merge) (MayAnswer formula_meaning q.ordered q.ops) t most s s' r → Told told
  told-delivered written r told is leaves =
      subst Told (sym is) (tells written r (some-answer q.ordered q.ops (merge_in_force q.merge) most t s s' r leaves))

-- ---- the line of the ending after them

abbrev text : Bool → QueryView Formula → Trace ℤ → List ℕ
text plain q u = told_text plain None (merge_in_force q.merge) u

-- where no aggregate is asked for, these lines are what is reported of the answer
is-text : (plain : Bool) (j job : JobView) (u : Trace ℤ) → j ≡ job → job.aggregate ≡ None → IsText plain Run j u (text plain j.query u)
is-text plain j job u same items = ap (λ kind. told_text plain kind (merge_in_force j.query.merge) u) (sym (ap (λ (x : JobView). x.aggregate) same ∙ items))

-- where the run fails, a beginning of its lines is written
pub run-failed : (plain : Bool) (j job : JobView) (a b : Bytes) (r : Result Ending ServeFault) (fault : ServeFault) → j ≡ job → job.aggregate ≡ None → IsErr r
    → Delivers j.query j.source a b j.cancel_after (Err fault) → Serves plain Run job a b r
run-failed plain j job a b r fault same items failed d =
    let h = failed-begun j.query j.source a b j.cancel_after fault d in
    subst (λ (x : JobView). Serves plain Run x a b r) same
    (serves-begun plain Run j a b r h.answer (text plain j.query h.answer) failed h.may (is-text plain j job h.answer same items)
    (begins-append a b _ (last_line plain h.answer.ending) h.begun))

-- unless a write failed, these are whole lines
whole-lines : (plain : Bool) (job : JobView) (a b : Bytes) (fault : ServeFault) → job.aggregate ≡ None
    → Delivers job.query job.source a b job.cancel_after (Err fault) → LeavesWholeLines plain job a b (Err fault)
whole-lines plain job a b (NoRun fault) items h = subst (λ kind. LeavesLines kind job.query job.source job.cancel_after fault a b) (sym items) h.1
whole-lines plain job a b Memory items h = tt
whole-lines plain job a b Write items h = tt
whole-lines plain job a b (Take fault) items h = tt

-- only a run that broke off, and a failing write, are reported
pub run-failed-so : (q : QueryView Formula) (t : Trace ℤ) (a b : Bytes) (most : Option ℕ) (fault : ServeFault) → Delivers q t a b most (Err fault)
    → MayFail Run fault
run-failed-so q t a b most (NoRun fault) h = (refl, h.0)
run-failed-so q t a b most Memory h = absurd h
run-failed-so q t a b most Write h = tt
run-failed-so q t a b most (Take fault) h = absurd h

pub run-failed-whole : (plain : Bool) (j job : JobView) (a b : Bytes) (r : Result Ending ServeFault) (fault : ServeFault) → j ≡ job → job.aggregate ≡ None
    → r ≡ Err fault → Delivers j.query j.source a b j.cancel_after (Err fault) → LeavesWholeLines plain job a b r
run-failed-whole plain j job a b r fault same items failed d =
    let Q : JobView → Type 0 = λ x. Delivers x.query x.source a b x.cancel_after (Err fault) in
    subst (LeavesWholeLines plain job a b) (sym failed) (whole-lines plain job a b fault items (subst Q same d))

-- where the line of the ending fails, all lines of batches and a beginning of that one are written
pub ending-failed : (plain : Bool) (j job : JobView) (a m b : Bytes) (r : Result Ending ServeFault) (e : Ending) → j ≡ job → job.aggregate ≡ None → IsErr r
    → Delivers j.query j.source a m j.cancel_after (Ok e) → AppendsBeginning m b (last_line plain (Some e)) → Serves plain Run job a b r
ending-failed plain j job a m b r e same items failed h begun =
    let end = ap (λ x. batch_lines j.query.merge h.answer ++ last_line plain x) (sym h.ending) in
    subst (λ (x : JobView). Serves plain Run x a b r) same
    (serves-begun plain Run j a b r h.answer (text plain j.query h.answer) failed h.may (is-text plain j job h.answer same items)
    (begins-as a b _ _ end (begins-after a m b _ _ h.lines begun)))

pub ending-written : (plain : Bool) (j job : JobView) (a m b : Bytes) (e : Ending) → j ≡ job → job.aggregate ≡ None
    → Delivers j.query j.source a m j.cancel_after (Ok e) → Appends m b (last_line plain (Some e)) → HasWritten plain Run job a b e
ending-written plain j job a m b e same items h written =
    let end = ap (λ x. batch_lines j.query.merge h.answer ++ last_line plain x) (sym h.ending) in
    subst (λ (x : JobView). HasWritten plain Run x a b e) same (
      h.answer,
      h.may,
      text plain j.query h.answer,
      is-text plain j job h.answer same items,
      appends-as a b _ _ end (Appends-trans a m b _ _ h.lines written),
      h.ending,
    )

-- so the run wasn't to be cancelled before
pub ending-in_time : (plain : Bool) (j job : JobView) (a m b : Bytes) (e : Ending) → j ≡ job → job.aggregate ≡ None
    → Delivers j.query j.source a m j.cancel_after (Ok e) → Appends m b (last_line plain (Some e)) → LeavesWholeLines plain job a b (Ok e)
ending-in_time plain j job a m b e same items h written =
    let end = ap (λ x. batch_lines j.query.merge h.answer ++ last_line plain x) (sym h.ending) in
    let none : j.aggregate ≡ None = ap (λ (x : JobView). x.aggregate) same ∙ items in
    subst (λ (x : JobView). LeavesWholeLines plain x a b (Ok e)) same
    (subst (λ kind. EndsInTime plain kind j.query j.source j.cancel_after a b) (sym none)
    (h.answer, h.may, h.fewer, appends-as a b _ _ end (Appends-trans a m b _ _ h.lines written)))
