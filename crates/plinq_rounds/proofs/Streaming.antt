-- A stream of which some lines were answered.
use Rattle.std.proofs.Common.{◌≡◌, ℕ, ◌+◌, ◌%◌, length, option_map, false, List, [], ◌++◌, Result, Ok, Err, inl, inr, refl, ap, sym, subst, ◌∙◌}
use Rattle.std.proofs.Common.{append_assoc, append-nil, true}
use Rattle.std.specs.Io.KnownBytes.{Appends, Consumes, IsAtEnd}
use Rattle.std.proofs.KnownBytes.{Appends-kept, Appends-nil, Appends-trans}
use Rattle.std.proofs.lemmas.Grind.{flat_map-append}
use Rattle.std.proofs.Math.Bool.{true≢false}
use Rattle.plinq_lines.proofs.WrittenBytes.{Bytes, appends-as, begins-after, begins-as}
use Rattle.plinq_text.specs.declared.line_step.LineStep.{LineStep}
use Rattle.plinq_text.specs.Lines.{Line, lines_of, is_whole, written}
use Rattle.plinq_text.specs.Steady.{has_check}
use Rattle.plinq_text.specs.Steps.{answer, answer_text, is_over, left}
use Rattle.plinq_text.proofs.LineLaws.{lines-append, lines-nil, whole-append}
use Rattle.plinq_text.proofs.StepLaws.{answer-append, answer-nil, answer-over}
use Rattle.plinq_rounds.specs.declared.lines_fault.LinesFault.{LinesFault}
use Rattle.plinq_rounds.specs.declared.lines_fault.LinesFault.TheVariants.{Memory, Read, Check, Write, Thread, Incomplete}
use Rattle.plinq_rounds.specs.inner.Rounds.{behind, ends_behind}
use Rattle.plinq_rounds.specs.Streams.{AnswersLines, AreItsBytes, AreLines, BreaksOff, EndsAt, Passes, fails}
use Rattle.plinq_rounds.proofs.Coming.{Came, all-read, bad-came, bad-more, came-on, its-bytes, left-more, more-came, none-came, over-good, over-same}

-- whole lines of a reader's bytes were answered
pub record Streamed (ss : List LineStep) (told left_told start now : Bytes) (rest : List ℕ) (steps : List LineStep) (lines : ℕ) : Type 0 where
  pub came : Came ss told left_told rest steps lines
  pub out : Appends start now (answer_text ss came.done)

pub none-streamed : (ss : List LineStep) (told start : Bytes) → Streamed ss told told start start [] ss 0
unfolding none-came
none-streamed ss told start = record {
  came = none-came ss told;
  out = appends-as start start [] _ (sym (ap (λ ls. written (answer ss ls)) lines-nil ∙ ap written (answer-nil ss))) (Appends-nil start);
}

-- what was answered of a text and of what comes after it
two-texts : (ss : List LineStep) (a b : List ℕ) → is_whole a ≡ true → answer_text ss (a ++ b) ≡ answer_text ss a ++ written
    (answer (left ss (lines_of a)) (lines_of b))
two-texts ss a b whole =
    ap (λ ls. written (answer ss ls)) (lines-append a b whole)
    ∙ ap written (answer-append ss (lines_of a) (lines_of b))
    ∙ flat_map-append (λ (l : Line). l.text ++ l.end) (answer ss (lines_of a)) _

-- after a failure that is neither a writer's nor a line's all of a text is written
ends-at : (ss : List LineStep) (ls : List Line) (fault : LinesFault) → fails fault ≡ false → (start now : Bytes)
    → Appends start now (written (answer ss ls)) → EndsAt ss ls fault start now
ends-at ss ls Write other start now p = absurd (true≢false other)
ends-at ss ls (Check n) other start now p = absurd (true≢false other)
ends-at ss ls Memory other start now p = p
ends-at ss ls Read other start now p = p
ends-at ss ls Thread other start now p = p
ends-at ss ls Incomplete other start now p = p

module _ {ss : List LineStep} {told left_told start now : Bytes} {rest : List ℕ} {steps : List LineStep} {lines : ℕ} where
  -- more was read
  pub read-more : (s : Streamed ss told left_told start now rest steps lines) (new : Bytes) (piece more : List ℕ) → Consumes left_told new piece
      → more ≡ rest ++ piece
      → Streamed ss told new start now more steps lines
  unfolding more-came
  read-more s new piece more took is = record { came = more-came s.came new piece more took is; out = s.out }

  -- no line more can come
  pub streamed-over : {A : Type 0} (s : Streamed ss told left_told start now rest steps lines) → is_over steps ≡ true → (x : A)
      → AnswersLines {A = A} ss told start now (Ok x) steps
  streamed-over s over x =
      let done = s.came.done in
      let all = its-bytes told left_told (done ++ rest) s.came.read in
      let later = rest ++ all.0 in
      let one : (done ++ rest) ++ all.0 ≡ done ++ later = append_assoc done rest all.0 in
      let same : answer_text ss done ≡ answer_text ss (done ++ later) = sym (
      two-texts ss done later s.came.whole
      ∙ ap (λ c. answer_text ss done ++ written (answer c (lines_of later))) (sym s.came.steps_are)
      ∙ ap (λ ls. answer_text ss done ++ written ls) (answer-over steps over (lines_of later))
      ∙ append-nil (answer_text ss done)) in (
        done ++ later,
        subst (AreItsBytes told) one all.1,
        appends-as start now _ _ same s.out,
        over-same s.came over later,
        over-good s.came over later,
      )

  -- something fails before more is answered
  pub streamed-fails : (A : Type 0) (s : Streamed ss told left_told start now rest steps lines) (fault : LinesFault) → fails fault ≡ false
      → AnswersLines {A = A} ss told start now (Err fault) steps
  streamed-fails A s fault other =
      let done = s.came.done in
      let all = its-bytes told left_told (done ++ rest) s.came.read in
      let bytes = subst (AreItsBytes told) (append_assoc done rest all.0) all.1 in
      (done, rest ++ all.0, bytes, inl s.came.whole, ends-at ss (lines_of done) fault other start now s.out)

  -- lines more that the steps make of a text after what was answered
  more-answer : (s : Streamed ss told left_told start now rest steps lines) (text : List ℕ)
      → answer_text ss s.came.done ++ written (answer steps (lines_of text)) ≡ answer_text ss (s.came.done ++ text)
  more-answer s text =
      ap (λ c. answer_text ss s.came.done ++ written (answer c (lines_of text))) s.came.steps_are ∙ sym (two-texts ss s.came.done text s.came.whole)

  -- what was answered of whole lines is one answer
  pub streamed-on : {A : Type 0} (s : Streamed ss told left_told start now rest steps lines) (first later : List ℕ) (steps' : List LineStep) (new : Bytes)
      (x : A) (lines' : ℕ)
      → rest ≡ first ++ later → is_whole first ≡ true → Passes {A = A} steps (lines_of first) now new (Ok x) steps'
      → (has_check steps' ≡ true → lines' ≡ (lines + length (lines_of first)) % 18446744073709551616)
      → Streamed ss told left_told start new later steps' lines'
  unfolding came-on
  streamed-on s first later steps' new x lines' parts whole p count = record {
    came = came-on s.came first later steps' lines' parts whole p.1 p.2 count;
    out = appends-as start new _ _ (more-answer s first) (Appends-trans start now new _ _ s.out p.0);
  }

  -- nothing more was written before a failure
  before-all : (A : Type 0) (s : Streamed ss told left_told start now rest steps lines) (first later : List ℕ) (new : Bytes) (fault : LinesFault)
      → fails fault ≡ false → AreItsBytes told ((s.came.done ++ first) ++ later) → Appends start new (answer_text ss s.came.done)
      → AnswersLines {A = A} ss told start new (Err fault) steps
  before-all A s first later new fault other bytes out = (
    s.came.done,
    first ++ later,
    subst (AreItsBytes told) (append_assoc s.came.done first later) bytes,
    inl s.came.whole,
    ends-at ss (lines_of s.came.done) fault other start new out,
  )

  -- what was written of a text before a failure
  broke-off : (A : Type 0) (s : Streamed ss told left_told start now rest steps lines) (first later : List ℕ) (new : Bytes) (fault : LinesFault)
      → AreItsBytes told ((s.came.done ++ first) ++ later) → AreLines (s.came.done ++ first) later
      → BreaksOff steps (lines_of first) fault now new → AnswersLines {A = A} ss told start new (Err (behind lines fault)) steps
  broke-off A s first later new Write bytes lines_are broke = (
    s.came.done ++ first,
    later,
    bytes,
    lines_are,
    begins-as start new _ _ (more-answer s first) (begins-after start now new (answer_text ss s.came.done) _ s.out broke),
  )
  broke-off A s first later new (Check n) bytes lines_are broke = (
    s.came.done ++ first,
    later,
    bytes,
    lines_are,
    (appends-as start new _ _ (more-answer s first) (Appends-trans start now new _ _ s.out broke.0), bad-came s.came first n broke.1),
  )
  broke-off A s first later new Memory bytes lines_are broke =
      before-all A s first later new Memory refl bytes (Appends-kept start now new _ s.out broke)
  broke-off A s first later new Read bytes lines_are broke =
      before-all A s first later new Read refl bytes (Appends-kept start now new _ s.out broke)
  broke-off A s first later new Thread bytes lines_are broke =
      before-all A s first later new Thread refl bytes (Appends-kept start now new _ s.out broke)
  broke-off A s first later new Incomplete bytes lines_are broke =
      before-all A s first later new Incomplete refl bytes (Appends-kept start now new _ s.out broke)

  -- a round failed
  pub streamed-broke : (A : Type 0) (s : Streamed ss told left_told start now rest steps lines) (first later : List ℕ) (new : Bytes) (fault : LinesFault)
      → rest ≡ first ++ later → is_whole first ≡ true → BreaksOff steps (lines_of first) fault now new
      → AnswersLines {A = A} ss told start new (Err (behind lines fault)) steps
  streamed-broke A s first later new fault parts whole broke =
      let done = s.came.done in
      let all = its-bytes told left_told (done ++ rest) s.came.read in
      let same : (done ++ rest) ++ all.0 ≡ (done ++ first) ++ (later ++ all.0) =
      ap (λ r. (done ++ r) ++ all.0) parts ∙ ap (λ r. r ++ all.0) (sym (append_assoc done first later)) ∙ append_assoc (done ++ first) later all.0 in
      broke-off A s first (later ++ all.0) new fault (subst (AreItsBytes told) same all.1) (inl (whole-append done first s.came.whole whole)) broke

  -- all was read, and the last line is answered
  pub streamed-ends : {A : Type 0} (s : Streamed ss told left_told start now rest steps lines) (new : Bytes) (steps' : List LineStep)
      (r : Result A LinesFault) → IsAtEnd left_told → Passes steps (lines_of rest) now new r steps'
      → AnswersLines ss told start new (ends_behind lines r) steps'
  streamed-ends s new steps' (Ok x) end p = (
    s.came.done ++ rest,
    all-read told left_told (s.came.done ++ rest) s.came.read end,
    appends-as start new _ _ (more-answer s rest) (Appends-trans start now new _ _ s.out p.0),
    λ ls. ap (λ c. answer c ls) (p.1 ∙ left-more s.came rest),
    λ start. bad-more s.came rest ∙ ap (option_map (λ n. n + length (lines_of s.came.done))) p.2,
  )
  streamed-ends {A} s new steps' (Err fault) end broke =
      let all = all-read told left_told (s.came.done ++ rest) s.came.read end in
      broke-off A s rest [] new fault (subst (AreItsBytes told) (sym (append-nil (s.came.done ++ rest))) all) (inr refl) broke
