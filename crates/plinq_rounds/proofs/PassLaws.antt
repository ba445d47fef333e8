-- What is written before a flush, and lines in one block.
use Rattle.std.proofs.Common.{◌≡◌, ◌⊎◌, inl, inr, ℕ, List, [], ◌∷◌, Result, Ok, Err, IfErr, IfOk, length, flat_map, append-nil, arith, refl, ap}
use Rattle.std.proofs.Common.{sym, subst, ◌∙◌}
use Rattle.std.specs.Io.KnownBytes.{Appends, Keeps}
use Rattle.std.proofs.KnownBytes.{Appends-kept, Keeps-trans}
use Rattle.plinq_lines.specs.Written.{AppendsBeginning, Writes}
use Rattle.plinq_lines.proofs.WrittenBytes.{Bytes, begins-all}
use Rattle.plinq_text.specs.declared.line_step.LineStep.{LineStep}
use Rattle.plinq_text.specs.Lines.{AreFull, Line, lines_of, written}
use Rattle.plinq_text.specs.Steps.{answer, left}
use Rattle.plinq_text.proofs.LineLaws.{lines-written}
use Rattle.plinq_text.proofs.StepLaws.{left-none}
use Rattle.plinq_rounds.specs.declared.lines_fault.LinesFault.{LinesFault}
use Rattle.plinq_rounds.specs.declared.lines_fault.LinesFault.TheVariants.{Memory, Read, Check, Write, Thread, Incomplete}
use Rattle.plinq_rounds.specs.inner.Rounds.{IsFlushFailed}
use Rattle.plinq_rounds.specs.Streams.{Passes}

-- after a beginning of a text nothing more is written
begins-kept : (a b c : Bytes) (x : List ℕ) → AppendsBeginning a b x → Keeps b c → AppendsBeginning a c x
begins-kept a b c x h keeps = (h.0, Appends-kept a b c _ h.1 keeps)

-- a round's lines are passed, and then the writer is flushed
pub passes-flushed : {A : Type 0} (ss ss' : List LineStep) (ls : List Line) (old mid new : Bytes) (round result : Result A LinesFault)
    → Passes ss ls old mid round ss' → Keeps mid new → (result ≡ round) ⊎ IsFlushFailed round result → Passes ss ls old new result ss'
passes-flushed {A} ss ss' ls old mid new round result p keeps (inl same) = subst (λ r. Passes ss ls old new r ss') (sym same) (by round p)
  where
    by : (r : Result A LinesFault) → Passes ss ls old mid r ss' → Passes ss ls old new r ss'
    by (Ok x) p = (Appends-kept old mid new _ p.0 keeps, p.1, p.2)
    by (Err (Check n)) p = (Appends-kept old mid new _ p.0 keeps, p.1)
    by (Err Memory) p = Keeps-trans old mid new p keeps
    by (Err Read) p = Keeps-trans old mid new p keeps
    by (Err Write) p = begins-kept old mid new _ p keeps
    by (Err Thread) p = Keeps-trans old mid new p keeps
    by (Err Incomplete) p = Keeps-trans old mid new p keeps
passes-flushed {A} ss ss' ls old mid new round result p keeps (inr failed) = by round p failed
  where
    written_all : Appends old mid (written (answer ss ls)) → result ≡ Err Write → Passes ss ls old new result ss'
    written_all p is = subst (λ r. Passes {A = A} ss ls old new r ss') (sym is) (begins-all old new _ (Appends-kept old mid new _ p keeps))

    by : (r : Result A LinesFault) → Passes ss ls old mid r ss' → IsFlushFailed r result → Passes ss ls old new result ss'
    by (Ok x) p is = written_all p.0 is
    by (Err (Check n)) p is = written_all p.0 is
    by (Err Memory) p is = absurd is
    by (Err Read) p is = absurd is
    by (Err Write) p is = absurd is
    by (Err Thread) p is = absurd is
    by (Err Incomplete) p is = absurd is

-- a text is written, and then the writer is flushed
pub writes-flushed : {A : Type 0} (old mid new : Bytes) (bytes : List ℕ) (r : Result A LinesFault) → Appends old mid bytes → Keeps mid new
    → Writes old new r bytes
writes-flushed old mid new bytes (Ok x) p keeps = Appends-kept old mid new _ p keeps
writes-flushed old mid new bytes (Err fault) p keeps = begins-all old new _ (Appends-kept old mid new _ p keeps)

as-they-are : (ls : List Line) → answer [] ls ≡ ls
unfolding answer
as-they-are ls = refl

-- no steps leave lines as they are
pub no-steps : (ss : List LineStep) → length ss ≡ 0 → (ls : List Line) → (answer ss ls ≡ ls) × (ss ≡ left ss ls)
no-steps [] none ls = (as-they-are ls, sym (left-none ls))
no-steps (s ∷ ss) none ls = absurd (omega arith)

-- what holds of a value holds if it follows
pub still-ok : {A E : Type 0} {P Q : A → Type 0} (r : Result A E) → ((x : A) → P x → Q x) → IfOk r P → IfOk r Q
still-ok (Ok x) f p = f x p
still-ok (Err e) f p = tt

-- and of a value that there is, or of a failure
pub ok-is : {A E : Type 0} (P : A → Type 0) (r : Result A E) (x : A) → r ≡ Ok x → IfOk r P → P x
ok-is P r x is p = subst (λ r. IfOk r P) is p

pub err-is : {A E : Type 0} (P : E → Type 0) (r : Result A E) (x : E) → r ≡ Err x → IfErr r P → P x
err-is P r x is p = subst (λ r. IfErr r P) is p

-- lines in one block
pub one-of-lines : (bs : List (List ℕ)) (b : List ℕ) (ls : List Line) → AreFull ls → bs ≡ b ∷ [] → b ≡ written ls
    → (flat_map (λ x. x) bs ≡ written ls) × (flat_map lines_of bs ≡ ls)
one-of-lines bs b ls full one is = (
  ap (flat_map (λ x. x)) one ∙ append-nil b ∙ is,
  ap (flat_map lines_of) one ∙ append-nil (lines_of b) ∙ ap lines_of is ∙ lines-written ls full,
)
