-- What each command answers, and the text that it prints.
use Rattle.std.specs.Prelude.{◌≡◌, ◌≢◌, ◌<◌, ◌⊎◌, ⊤, ℕ, ℤ, pos, List, [], ◌∷◌, ◌++◌, length, Bool, true, false, Option, Some, None, IfSome, Result, Ok, Err}
use Rattle.std.specs.Prelude.{MatchResult, codes, refl}
use Rattle.std.proofs.Common.{arith}
use Rattle.std.specs.Fmt.{digits}
use Rattle.std.specs.List.{flat_map}
use Rattle.std.specs.Io.KnownBytes.{Appends, Keeps}
use Rattle.plinq_source.specs.declared.ending.Ending.{Ending}
use Rattle.plinq_source.specs.declared.ending.Ending.TheVariants.{End}
use Rattle.plinq_source.specs.Trace.{Trace, ended_trace}
use Rattle.plinq_lambda.specs.Formula.{formula_meaning}
use Rattle.plinq_lambda.specs.declared.formula.Formula.{Formula}
use Rattle.plinq_lambda.specs.declared.formula.Formula.TheVariants.{Add}
use Rattle.plinq_ops.specs.declared.op.Op.TheVariants.{Select}
use Rattle.plinq_ops.specs.declared.merge_option.MergeOption.{MergeOption}
use Rattle.plinq_ops.specs.declared.merge_option.MergeOption.TheVariants.{NotBuffered}
use Rattle.plinq_ops.specs.Batches.{batches}
use Rattle.plinq_ops.specs.Query.{QueryView, merge_in_force, degree_in_force}
use Rattle.plinq_ops.specs.Answer.{MayAnswer}
use Rattle.plinq_ops.specs.Sequential.{answer_of}
use Rattle.plinq_keyed.specs.declared.record.Record.{Record}
use Rattle.plinq_run.specs.declared.run_fault.RunFault.{RunFault}
use Rattle.plinq_run.specs.declared.run_fault.RunFault.TheVariants.{Cancelled}
use Rattle.plinq_run.specs.Runs.{SinkRefused, Stopped, Other, cause_of}
use Rattle.plinq_document.specs.declared.kind.Kind.{Kind}
use Rattle.plinq_document.specs.declared.kind.Kind.TheVariants.{Sum}
use Rattle.plinq_document.specs.Jobs.{JobView}
use Rattle.plinq_arguments.specs.declared.command.Command.{Command}
use Rattle.plinq_arguments.specs.declared.command.Command.TheVariants.{Run, Seq, Plan, Parts, History}
use Rattle.plinq_lines.specs.AnswerText.{batch_line}
use Rattle.plinq_lines.specs.PlanText.{plan_text}
use Rattle.plinq_lines.specs.PartsText.{parts_text}
use Rattle.plinq_lines.specs.HistoryText.{history_text}
use Rattle.plinq_lines.specs.Written.{AppendsBeginning}
use Rattle.plinq_cli.specs.declared.serve_fault.ServeFault.{ServeFault}
use Rattle.plinq_cli.specs.declared.serve_fault.ServeFault.TheVariants.{Memory, Write, Run as NoRun, Take}
use Rattle.plinq_cli.specs.Rounds.{IsHistory}
use Rattle.plinq_cli.specs.Told.{told_text}

-- the query's answer on one thread
abbrev pub sequential_answer : JobView → Trace ℤ
sequential_answer job = answer_of formula_meaning job.query.ops job.source

-- the lines of an answer's batches
abbrev pub batch_lines : Option MergeOption → Trace ℤ → List ℕ
batch_lines merge u = flat_map batch_line (batches (merge_in_force merge) u)

-- this is an answer of the command for the job: the query's, no items for `plan`, all that the source has for `parts` and `history`
abbrev pub IsAnswer : Command → JobView → Trace ℤ → Type 0
IsAnswer Run job u = MayAnswer formula_meaning job.query.ordered job.query.ops job.source u
IsAnswer Seq job u = u ≡ sequential_answer job
IsAnswer Plan job u = u ≡ ended_trace [] End
IsAnswer Parts job u = u ≡ job.source
IsAnswer History job u = u ≡ job.source

-- these are the lines of an answer; only that of a query can be plain
abbrev pub IsText : Bool → Command → JobView → Trace ℤ → List ℕ → Type 0
IsText plain Run job u lines = lines ≡ told_text plain job.aggregate (merge_in_force job.query.merge) u
IsText plain Seq job u lines = lines ≡ told_text plain job.aggregate (merge_in_force job.query.merge) u
IsText plain Plan job u lines = lines ≡ plan_text job.query
IsText plain Parts job u lines = lines ≡ parts_text (degree_in_force job.query.degree) u
IsText plain History job u lines = (h : List Record) × IsHistory (degree_in_force job.query.degree) job.growth u h × (lines ≡ history_text h u.ending)

-- the lines of an answer were written, and this is how it ended
abbrev pub HasWritten : Bool → Command → JobView → Option (List ℕ) → Option (List ℕ) → Ending → Type 0
HasWritten plain command job old new e =
    (u : Trace ℤ) × IsAnswer command job u × (lines : List ℕ) × IsText plain command job u lines × Appends old new lines × (u.ending ≡ Some e)

-- nothing was written, or a beginning of the lines of an answer
abbrev pub HasBegun : Bool → Command → JobView → Option (List ℕ) → Option (List ℕ) → Type 0
HasBegun plain command job old new =
    Keeps old new ⊎ ((u : Trace ℤ) × IsAnswer command job u × (lines : List ℕ) × IsText plain command job u lines × AppendsBeginning old new lines)

-- what was written for a job: the lines of an answer with the reported ending, or after a fault a beginning of such lines
abbrev pub Serves : {E : Type 0} → Bool → Command → JobView → Option (List ℕ) → Option (List ℕ) → Result Ending E → Type 0
Serves plain command job old new r = MatchResult r (HasWritten plain command job old new) (λ _. HasBegun plain command job old new)

-- ---- a run that broke off

-- where a run was cancelled, this is the number of batches to cancel it after
abbrev pub CountsIf : RunFault → Option ℕ → ℕ → Type 0
CountsIf Cancelled most n = most ≡ Some n
CountsIf fault most n = ⊤

module _ (q : QueryView Formula) (t : Trace ℤ) (old new : Option (List ℕ)) where
  -- the lines of the batches of an answer were written, fewer than it was to be cancelled after, and this is how it ended
  pub record HasDelivered (most : Option ℕ) (e : Ending) : Type 0 where
    pub answer : Trace ℤ
    pub may : MayAnswer formula_meaning q.ordered q.ops t answer
    pub fewer : IfSome most (λ n. length (batches (merge_in_force q.merge) answer) < n)
    pub lines : Appends old new (batch_lines q.merge answer)
    pub ending : answer.ending ≡ Some e

  -- a beginning of such lines was written
  pub record HasFailed : Type 0 where
    pub answer : Trace ℤ
    pub may : MayAnswer formula_meaning q.ordered q.ops t answer
    pub begun : AppendsBeginning old new (batch_lines q.merge answer)

  -- the lines of the first batches of an answer were written, each whole, and nothing after them; of a cancelled run as many
  -- as it was to be cancelled after
  pub record HasBrokenOff (most : Option ℕ) (fault : RunFault) : Type 0 where
    pub answer : Trace ℤ
    pub may : MayAnswer formula_meaning q.ordered q.ops t answer
    pub sent : List (List ℤ)
    pub rest : List (List ℤ)
    pub first : batches (merge_in_force q.merge) answer ≡ sent ++ rest
    pub number : CountsIf fault most (length sent)
    pub lines : Appends old new (flat_map batch_line sent)

  -- what was written of the batches of a run that ended so, or failed: in writing, or by a fault of its own
  abbrev pub Delivers : Option ℕ → Result Ending ServeFault → Type 0
  Delivers most (Ok e) = HasDelivered most e
  Delivers most (Err (NoRun fault)) = ((code : ℕ) → cause_of fault ≢ SinkRefused code) × HasBrokenOff most fault
  Delivers most (Err Memory) = ⊥
  Delivers most (Err Write) = HasFailed
  Delivers most (Err (Take fault)) = ⊥

-- what was written of a run that broke off: the lines of its first batches, and of an aggregate, which isn't cancelled, nothing
abbrev pub LeavesLines : Option Kind → QueryView Formula → Trace ℤ → Option ℕ → RunFault → Option (List ℕ) → Option (List ℕ) → Type 0
LeavesLines None q t most fault old new = HasBrokenOff q t old new most fault
LeavesLines (Some kind) q t most fault old new = (cause_of fault ≡ Other) × Keeps old new

-- the lines of an answer were written, of fewer batches than a run was to be cancelled after; an aggregate isn't cancelled
abbrev pub EndsInTime : Bool → Option Kind → QueryView Formula → Trace ℤ → Option ℕ → Option (List ℕ) → Option (List ℕ) → Type 0
EndsInTime plain None q t most old new =
    (u : Trace ℤ) × MayAnswer formula_meaning q.ordered q.ops t u × IfSome most (λ n. length (batches (merge_in_force q.merge) u) < n)
    × Appends old new (told_text plain None (merge_in_force q.merge) u)
EndsInTime plain (Some kind) q t most old new = ⊤

-- a run that wasn't cancelled ended in time; where it broke off, no line was left half written
abbrev pub LeavesWholeLines : Bool → JobView → Option (List ℕ) → Option (List ℕ) → Result Ending ServeFault → Type 0
LeavesWholeLines plain job old new (Ok e) = EndsInTime plain job.aggregate job.query job.source job.cancel_after old new
LeavesWholeLines plain job old new (Err (NoRun fault)) = LeavesLines job.aggregate job.query job.source job.cancel_after fault old new
LeavesWholeLines plain job old new (Err Memory) = ⊤
LeavesWholeLines plain job old new (Err Write) = ⊤
LeavesWholeLines plain job old new (Err (Take fault)) = ⊤

-- ---- worked rows

-- {"version":1,"source":{"list":[3,1,4]},"query":[["as_ordered"],["select","add",1]]}, with --merge not
abbrev pub add_one : JobView
add_one = record {
  query = record { ops = Select (Add (pos 1)) ∷ []; ordered = true; merge = Some NotBuffered; degree = None };
  source = ended_trace (pos 3 ∷ pos 1 ∷ pos 4 ∷ []) End;
  growth = record { first = 1; repeat = 3; max = 512 };
  has_growth = false;
  aggregate = None;
  cancel_after = None;
}

pub add_one_is_answered : sequential_answer add_one ≡ ended_trace (pos 4 ∷ pos 2 ∷ pos 5 ∷ []) End
add_one_is_answered = refl

pub add_one_is_printed : IsText false Run add_one (sequential_answer add_one) (codes "4\n2\n5\nend\n")
unfolding digits
add_one_is_printed = refl

-- whatever number it is to be cancelled after, an aggregate isn't cancelled
pub sum_is_not_cancelled : (most : Option ℕ) (old new : Option (List ℕ)) → LeavesLines (Some Sum) add_one.query add_one.source most Cancelled old new → ⊥
sum_is_not_cancelled most old new h = let bad : Stopped ≡ Other = h.0 in cc

-- without `as_ordered` two numbers may change places
pub two_exchanged : MayAnswer formula_meaning false [] (ended_trace (pos 1 ∷ pos 2 ∷ []) End) (ended_trace (pos 2 ∷ pos 1 ∷ []) End)
two_exchanged = record {
  between = ended_trace (pos 2 ∷ pos 1 ∷ []) End;
  given = record { items = record { moves = (0, 1) ∷ []; below = (omega arith, omega arith, tt); is = refl }; ending = refl };
  goes_on = refl;
}
