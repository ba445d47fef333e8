-- A stream whose first lines came to steps.
use Rattle.std.proofs.Common.{◌≡◌, ℕ, ◌+◌, ◌%◌, true, List, [], ◌++◌, length, length-append, Option, Some, None, option_map}
use Rattle.std.proofs.Common.{ap, sym, subst, ◌∙◌, append_assoc, append-nil}
use Rattle.std.specs.Io.KnownBytes.{Consumes, IsAtEnd}
use Rattle.std.proofs.KnownBytes.{Consumes-nil, Consumes-trans}
use Rattle.std.proofs.Math.Nat.{add-mod-mod, mod-add-mod}
use Rattle.plinq_lines.proofs.WrittenBytes.{Bytes}
use Rattle.plinq_text.specs.declared.line_step.LineStep.{LineStep}
use Rattle.plinq_text.specs.inner.Bad.{or_now}
use Rattle.plinq_text.specs.Lines.{Line, lines_of, is_whole}
use Rattle.plinq_text.specs.Steady.{has_check}
use Rattle.plinq_text.specs.Steps.{answer, bad_line, has_failed, is_over, left}
use Rattle.plinq_text.proofs.BadLaws.{bad-append, bad-nil, bad-over, checks-left, good-left, has-check}
use Rattle.plinq_text.proofs.LineLaws.{lines-append, lines-nil, whole-append, whole-nil}
use Rattle.plinq_text.proofs.StepLaws.{answer-append, answer-over, left-append, left-nil}
use Rattle.plinq_rounds.specs.Streams.{AreItsBytes, IsBadAt, MakeTheSame, NoneIsBad}

-- the reader's bytes, of which these were read
pub its-bytes : (told left_told : Bytes) (read : List ℕ) → Consumes told left_told read → (more : List ℕ) × AreItsBytes told (read ++ more)
its-bytes None left_told read is = ([], tt)
its-bytes (Some t) None read is = absurd is
its-bytes (Some t) (Some l) read is = (l, is)

-- a reader that is at its end gave all that it had
pub all-read : (told left_told : Bytes) (read : List ℕ) → Consumes told left_told read → IsAtEnd left_told → AreItsBytes told read
all-read None left_told read is end = tt
all-read (Some t) None read is end = absurd is
all-read (Some t) (Some l) read is end = is ∙ ap (λ x. read ++ x) end ∙ append-nil read

-- what is left of steps that are over, after whatever lines
over-left : (steps : List LineStep) → is_over steps ≡ true → (ms ls : List Line) → answer (left steps ms) ls ≡ []
over-left steps over ms ls =
    sym (ap (λ xs. xs ++ answer (left steps ms) ls) (answer-over steps over ms)) ∙ sym (answer-append steps ms ls) ∙ answer-over steps over (ms ++ ls)

-- whole lines of a reader's bytes came, of which none failed a check, these bytes were read after them, this is left of the steps,
-- and so many lines were counted
pub record Came (ss : List LineStep) (told left_told : Bytes) (rest : List ℕ) (steps : List LineStep) (lines : ℕ) : Type 0 where
  pub done : List ℕ
  pub whole : is_whole done ≡ true
  pub read : Consumes told left_told (done ++ rest)
  pub steps_are : steps ≡ left ss (lines_of done)
  pub good : bad_line ss (lines_of done) ≡ None
  pub counted : has_check steps ≡ true → lines ≡ length (lines_of done) % 18446744073709551616

unfoldable pub none-came : (ss : List LineStep) (told : Bytes) → Came ss told told [] ss 0
none-came ss told = record {
  done = [];
  whole = whole-nil;
  read = Consumes-nil told;
  steps_are = sym (ap (left ss) lines-nil ∙ left-nil ss);
  good = ap (bad_line ss) lines-nil ∙ bad-nil ss;
  counted = λ has. sym (ap (λ ls. length ls % 18446744073709551616) lines-nil);
}

-- a line more is bad among these or among later ones
later-bad : (a : Option ℕ) (o : Option ℕ) (f : ℕ → ℕ) → a ≡ None → or_now a (option_map f o) ≡ option_map f o
later-bad a o f none = ap (λ x. or_now x (option_map f o)) none

module _ {ss : List LineStep} {told left_told : Bytes} {rest : List ℕ} {steps : List LineStep} {lines : ℕ} where
  -- more was read
  unfoldable pub more-came : (s : Came ss told left_told rest steps lines) (new : Bytes) (piece more : List ℕ) → Consumes left_told new piece
      → more ≡ rest ++ piece → Came ss told new more steps lines
  more-came s new piece more took is = record {
    done = s.done;
    whole = s.whole;
    read = subst (Consumes told new) (append_assoc s.done rest piece ∙ ap (λ x. s.done ++ x) (sym is))
        (Consumes-trans told left_told new _ piece s.read took);
    steps_are = s.steps_are;
    good = s.good;
    counted = s.counted;
  }

  -- what is left after a text more
  pub left-more : (s : Came ss told left_told rest steps lines) (text : List ℕ) → left steps (lines_of text) ≡ left ss (lines_of (s.done ++ text))
  left-more s text =
      ap (λ c. left c (lines_of text)) s.steps_are
      ∙ sym (left-append ss (lines_of s.done) (lines_of text))
      ∙ ap (left ss) (sym (lines-append s.done text s.whole))

  -- the first line of a text more that fails a check
  pub bad-more : (s : Came ss told left_told rest steps lines) (text : List ℕ)
      → bad_line ss (lines_of (s.done ++ text)) ≡ option_map (λ n. n + length (lines_of s.done)) (bad_line steps (lines_of text))
  bad-more s text =
      ap (bad_line ss) (lines-append s.done text s.whole)
      ∙ bad-append ss (lines_of s.done) (lines_of text)
      ∙ later-bad (bad_line ss (lines_of s.done)) _ (λ n. n + length (lines_of s.done)) s.good
      ∙ ap (λ c. option_map (λ n. n + length (lines_of s.done)) (bad_line c (lines_of text))) (sym s.steps_are)

  -- whole lines more came
  unfoldable pub came-on : (s : Came ss told left_told rest steps lines) (first later : List ℕ) (steps' : List LineStep) (lines' : ℕ)
      → rest ≡ first ++ later → is_whole first ≡ true → steps' ≡ left steps (lines_of first) → bad_line steps (lines_of first) ≡ None
      → (has_check steps' ≡ true → lines' ≡ (lines + length (lines_of first)) % 18446744073709551616)
      → Came ss told left_told later steps' lines'
  came-on s first later steps' lines' parts whole left_are good count = record {
    done = s.done ++ first;
    whole = whole-append s.done first s.whole whole;
    read = subst (Consumes told left_told) (ap (λ r. s.done ++ r) parts ∙ sym (append_assoc s.done first later)) s.read;
    steps_are = left_are ∙ left-more s first;
    good = bad-more s first ∙ ap (option_map (λ n. n + length (lines_of s.done))) good;
    counted = λ has. count has
        ∙ ap (λ n. (n + length (lines_of first)) % 18446744073709551616)
        (s.counted (checks-left steps (lines_of first) (ap has_check (sym left_are) ∙ has)))
        ∙ mod-add-mod (length (lines_of s.done)) 18446744073709551616 (length (lines_of first))
        ∙ ap (λ n. n % 18446744073709551616) (sym (length-append (lines_of s.done) (lines_of first)))
        ∙ ap (λ ls. length ls % 18446744073709551616) (sym (lines-append s.done first s.whole));
  }

  -- the first line that fails a check, counted from the reader's first
  pub bad-came : (s : Came ss told left_told rest steps lines) (text : List ℕ) (n : ℕ) → bad_line steps (lines_of text) ≡ Some n
      → IsBadAt ss (lines_of (s.done ++ text)) ((n + lines) % 18446744073709551616)
  bad-came s text n bad = (
    n + length (lines_of s.done),
    bad-more s text ∙ ap (option_map (λ n. n + length (lines_of s.done))) bad,
    ap (λ k. (n + k) % 18446744073709551616) (s.counted (has-check steps (lines_of text) n bad))
        ∙ add-mod-mod n (length (lines_of s.done)) 18446744073709551616,
  )

  -- no line more fails a check if none can come
  pub over-good : (s : Came ss told left_told rest steps lines) → is_over steps ≡ true → (later : List ℕ) → NoneIsBad ss (lines_of (s.done ++ later))
  over-good s over later = λ start.
      bad-more s later
      ∙ ap (option_map (λ n. n + length (lines_of s.done)))
      (bad-over steps (lines_of later) over (ap has_failed s.steps_are ∙ good-left ss (lines_of s.done) start s.good))

  -- they make nothing, as what is left once all lines have come
  pub over-same : (s : Came ss told left_told rest steps lines) → is_over steps ≡ true → (later : List ℕ)
      → MakeTheSame steps (left ss (lines_of (s.done ++ later)))
  over-same s over later = λ ls.
      answer-over steps over ls ∙ sym (over-left steps over (lines_of later) ls) ∙ ap (λ c. answer c ls) (left-more s later)
