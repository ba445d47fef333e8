-- What one thread reports, and has written: the lines of the answer's batches, or where it failed a beginning of them.
use Rattle.std.specs.Prelude.{⊤, IfOk}
use Rattle.std.proofs.Common.{◌≡◌, Bool, ℕ, ℤ, List, ◌++◌, Some, None, Result, Ok, Err, refl, ap, sym, ◌∙◌, subst}
use Rattle.std.specs.Result.{IsErr}
use Rattle.std.specs.Io.KnownBytes.{Appends, Keeps}
use Rattle.std.proofs.KnownBytes.{Appends-kept, Appends-trans}
use Rattle.plinq_source.specs.declared.ending.Ending.{Ending}
use Rattle.plinq_source.specs.Trace.{Trace}
use Rattle.plinq_lambda.specs.Formula.{formula_meaning}
use Rattle.plinq_lambda.specs.declared.formula.Formula.{Formula}
use Rattle.plinq_merge.specs.declared.delivery_fault.DeliveryFault.{DeliveryFault}
use Rattle.plinq_merge.specs.declared.delivery_fault.DeliveryFault.TheVariants.{Memory, Sink}
use Rattle.plinq_merge.specs.declared.merge_fault.MergeFault.TheVariants.{Memory as NoMemory, Sink as Refusal}
use Rattle.plinq_merge.specs.Sending.{Delivers}
use Rattle.plinq_ops.specs.Batches.{batches}
use Rattle.plinq_ops.specs.Query.{QueryView, merge_in_force}
use Rattle.plinq_ops.specs.Sequential.{answer_of}
use Rattle.plinq_document.specs.Jobs.{JobView}
use Rattle.plinq_lines.specs.declared.write_fault.WriteFault.{WriteFault}
use Rattle.plinq_lines.specs.LineSink.{Lines, TakesLine, RefusesLine}
use Rattle.plinq_lines.specs.Written.{AppendsBeginning}
use Rattle.plinq_lines.proofs.LinesTaken.{taken-lines, short-lines}
use Rattle.plinq_lines.proofs.WrittenBytes.{Bytes, appends-as, begins-all, begins-after, begins-append, begins-as}
use Rattle.plinq_arguments.specs.declared.command.Command.TheVariants.{Seq}
use Rattle.plinq_cli.specs.declared.serve_fault.ServeFault.{ServeFault}
use Rattle.plinq_cli.specs.ServeFaults.{told_of_one}
use Rattle.plinq_cli.specs.Served.{batch_lines, sequential_answer, HasWritten, IsText, Serves}
use Rattle.plinq_cli.specs.Told.{last_line, told_text}
use Rattle.plinq_cli.specs.inner.WrittenAnswer.{HasWrittenAnswer}
use Rattle.plinq_cli.proofs.Flushed.{serves-begun}

-- ---- what the sink took is written, and the writer comes back as it is

module _ (q : QueryView Formula) (t : Trace ℤ) (a b : Bytes) (s s' : Lines) (start : s.bytes ≡ a) (keeps : Keeps s'.bytes b) where
  abbrev answer : Trace ℤ
  answer = answer_of formula_meaning q.ops t

  abbrev sent : List (List ℤ)
  sent = batches (merge_in_force q.merge) answer

  abbrev Told : Result Ending ServeFault → Type 0
  Told r = HasWrittenAnswer q t a b r × (s'.writer ≡ s.writer)

  appended : (bytes : List ℕ) → Appends s.bytes s'.bytes bytes → Appends a b bytes
  appended bytes h = let P : Bytes → Type 0 = λ x. Appends x b bytes in subst P start (Appends-kept s.bytes s'.bytes b bytes h keeps)

  begun : AppendsBeginning s.bytes s'.bytes (batch_lines q.merge answer) → AppendsBeginning a b (batch_lines q.merge answer)
  begun h = (h.0, appended _ h.1)

  tells : (written : Result ⊤ WriteFault) (r : Result Ending DeliveryFault) → IfOk r (λ e. answer.ending ≡ Some e)
      → Delivers TakesLine RefusesLine s sent r s' → Told (told_of_one written r)
  tells (Ok all) (Ok e) ends delivers =
      let taken = taken-lines s s' sent delivers in
      (record { lines = appended _ taken.0; ending = ends; faults = tt }, taken.1)
  tells (Ok all) (Err Memory) ends delivers =
      let short = short-lines s s' sent NoMemory delivers in
      (record { lines = begun short.0; ending = tt; faults = (λ bad. cc, λ bad. cc) }, short.1)
  tells (Ok all) (Err (Sink code)) ends delivers =
      let short = short-lines s s' sent (Refusal code) delivers in
      (record { lines = begun short.0; ending = tt; faults = tt }, short.1)
  tells (Err failed) (Ok e) ends delivers =
      let taken = taken-lines s s' sent delivers in
      (record { lines = begins-all a b _ (appended _ taken.0); ending = tt; faults = tt }, taken.1)
  tells (Err failed) (Err Memory) ends delivers =
      let short = short-lines s s' sent NoMemory delivers in
      (record { lines = begun short.0; ending = tt; faults = tt }, short.1)
  tells (Err failed) (Err (Sink code)) ends delivers =
      let short = short-lines s s' sent (Refusal code) delivers in
      (record { lines = begun short.0; ending = tt; faults = tt }, short.1)

  pub told-answer : (written : Result ⊤ WriteFault) (r : Result Ending DeliveryFault) (told : Result Ending ServeFault) → told ≡ told_of_one written r
      → IfOk r (λ e. answer.ending ≡ Some e) → Delivers TakesLine RefusesLine s sent r s' → Told told
  told-answer written r told is ends delivers = subst Told (sym is) (tells written r ends delivers)

-- ---- the line of the ending after them

module _ (plain : Bool) (j job : JobView) (same : j ≡ job) (items : job.aggregate ≡ None) where
  abbrev text : List ℕ
  text = told_text plain None (merge_in_force j.query.merge) (sequential_answer j)

  is-text : IsText plain Seq j (sequential_answer j) text
  is-text = ap (λ kind. told_text plain kind (merge_in_force j.query.merge) (sequential_answer j)) (sym (ap (λ (x : JobView). x.aggregate) same ∙ items))

  -- where it fails, a beginning of its lines is written
  pub answer-failed : (a b : Bytes) (r : Result Ending ServeFault) → IsErr r → AppendsBeginning a b (batch_lines j.query.merge (sequential_answer j))
      → Serves plain Seq job a b r
  answer-failed a b r failed begun =
      subst (λ (x : JobView). Serves plain Seq x a b r) same
      (serves-begun plain Seq j a b r (sequential_answer j) text failed refl is-text (begins-append a b _ (last_line plain (sequential_answer j).ending) begun))

  module _ (a m b : Bytes) (e : Ending) (lines : Appends a m (batch_lines j.query.merge (sequential_answer j)))
      (ends : (sequential_answer j).ending ≡ Some e) where
    end : (batch_lines j.query.merge (sequential_answer j) ++ last_line plain (Some e)) ≡ text
    end = ap (λ x. batch_lines j.query.merge (sequential_answer j) ++ last_line plain x) (sym ends)

    -- where the line of the ending fails, all lines of batches and a beginning of that one are written
    pub last-failed : (r : Result Ending ServeFault) → IsErr r → AppendsBeginning m b (last_line plain (Some e)) → Serves plain Seq job a b r
    last-failed r failed begun =
        subst (λ (x : JobView). Serves plain Seq x a b r) same
        (serves-begun plain Seq j a b r (sequential_answer j) text failed refl is-text (begins-as a b _ _ end (begins-after a m b _ _ lines begun)))

    pub last-written : Appends m b (last_line plain (Some e)) → HasWritten plain Seq job a b e
    last-written written =
        subst (λ (x : JobView). HasWritten plain Seq x a b e) same
        (sequential_answer j, refl, text, is-text, appends-as a b _ _ end (Appends-trans a m b _ _ lines written), ends)
