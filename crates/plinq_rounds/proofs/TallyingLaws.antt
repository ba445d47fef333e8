-- A stream of which some lines were counted.
use Rattle.std.proofs.Common.{◌≡◌, ℕ, ◌+◌, ◌%◌, ◌==◌, Bool, true, false, List, [], ◌∷◌, ◌++◌, length, if◌then◌else◌, Option, Some, None, option_map}
use Rattle.std.proofs.Common.{Result, Ok, Err, IfOk}
use Rattle.std.proofs.Common.{inl, inr, refl, ap, sym, subst, ◌∙◌, append_assoc, append-nil}
use Rattle.std.specs.Io.KnownBytes.{Consumes, IsAtEnd}
use Rattle.std.specs.List.{fold}
use Rattle.std.proofs.Math.Bool.{true≢false}
use Rattle.std.proofs.lemmas.List.Sums.{fold-append}
use Rattle.plinq_lines.proofs.WrittenBytes.{Bytes}
use Rattle.plinq_text.specs.declared.line_step.LineStep.{LineStep}
use Rattle.plinq_text.specs.Lines.{Line, lines_of, is_whole, line_feed}
use Rattle.plinq_text.specs.Steady.{has_check}
use Rattle.plinq_text.specs.Steps.{answer, bad_line, is_over, left}
use Rattle.plinq_text.proofs.LineLaws.{lines-append, lines-nil, whole-append}
use Rattle.plinq_text.proofs.StepLaws.{answer-append, answer-nil, answer-over}
use Rattle.plinq_rounds.specs.declared.lines_fault.LinesFault.{LinesFault}
use Rattle.plinq_rounds.specs.declared.lines_fault.LinesFault.TheVariants.{Memory, Read, Check, Write, Thread, Incomplete}
use Rattle.plinq_rounds.specs.inner.Rounds.{RoundEnds, behind, ends_behind}
use Rattle.plinq_rounds.specs.Streams.{AreItsBytes, IsBadAt, MakeTheSame, NoneIsBad, fails}
use Rattle.plinq_rounds.specs.Tallying.{FindsBad, TakesLines, ended}
use Rattle.plinq_rounds.proofs.Coming.{Came, all-read, bad-came, bad-more, came-on, its-bytes, left-more, more-came, none-came, over-good, over-same}

-- whole lines of a reader's bytes were counted
pub record Tallied {V : Type 0} (after : V → Line → V) (ss : List LineStep) (told left_told : Bytes) (old now : V) (rest : List ℕ)
    (steps : List LineStep) (lines : ℕ) : Type 0 where
  pub came : Came ss told left_told rest steps lines
  pub counts : now ≡ fold after old (answer ss (lines_of came.done))

pub none-tallied : {V : Type 0} (after : V → Line → V) (ss : List LineStep) (told : Bytes) (old : V) → Tallied after ss told told old old [] ss 0
unfolding none-came
none-tallied after ss told old = record {
  came = none-came ss told;
  counts = sym (ap (λ ls. fold after old (answer ss ls)) lines-nil ∙ ap (fold after old) (answer-nil ss));
}

-- what comes after whole lines is whole if all is
whole-after : (a b : List ℕ) → is_whole a ≡ true → is_whole (a ++ b) ≡ is_whole b
unfolding is_whole
whole-after [] b whole = refl
whole-after (x ∷ []) [] whole = whole
whole-after (x ∷ []) (y ∷ b) whole = refl
whole-after (x ∷ y ∷ a) b whole = whole-after (y ∷ a) b whole

ended-append : (a b : List ℕ) → is_whole a ≡ true → ended (a ++ b) ≡ a ++ ended b
ended-append a b whole =
    ap (λ w. if w then a ++ b else (a ++ b) ++ line_feed ∷ []) (whole-after a b whole) ∙ by (is_whole b)
  where
    by : (w : Bool) → (if w then a ++ b else (a ++ b) ++ line_feed ∷ []) ≡ a ++ (if w then b else b ++ line_feed ∷ [])
    by true = refl
    by false = append_assoc a b (line_feed ∷ [])

ended-same : (a : List ℕ) → is_whole a ≡ true → ended a ≡ a
ended-same a whole = ap (λ w. if w then a else a ++ line_feed ∷ []) whole

-- lines are whole if the last byte is a line feed
pub whole-last : (a : List ℕ) (b : ℕ) → is_whole (a ++ b ∷ []) ≡ (b == line_feed)
unfolding is_whole
whole-last [] b = refl
whole-last (x ∷ []) b = refl
whole-last (x ∷ y ∷ a) b = whole-last (y ∷ a) b

pub ended-whole : (a : List ℕ) → is_whole (ended a) ≡ true
ended-whole a = by (is_whole a) refl
  where
    by : (w : Bool) → is_whole a ≡ w → is_whole (if w then a else a ++ line_feed ∷ []) ≡ true
    by true is = is
    by false is = whole-last a line_feed

-- a failure that no line causes
pub none-found : (ss : List LineStep) (told : Bytes) (fault : LinesFault) → fails fault ≡ false → FindsBad ss told fault
none-found ss told Memory other = tt
none-found ss told Read other = tt
none-found ss told (Check n) other = absurd (true≢false other)
none-found ss told Write other = tt
none-found ss told Thread other = tt
none-found ss told Incomplete other = tt

-- how a round's failure looks from the reader's first line
found-behind : (ss : List LineStep) (told : Bytes) (lines : ℕ) (bad : Option ℕ) (fault : LinesFault) → RoundEnds {A = Unit {0}} bad (Err fault)
    → ((n : ℕ) → bad ≡ Some n → FindsBad ss told (behind lines (Check n))) → FindsBad ss told (behind lines fault)
found-behind ss told lines bad Memory ends found = tt
found-behind ss told lines bad Read ends found = tt
found-behind ss told lines bad (Check n) ends found = found n ends
found-behind ss told lines bad Write ends found = tt
found-behind ss told lines bad Thread ends found = tt
found-behind ss told lines bad Incomplete ends found = tt

module _ {V : Type 0} {after : V → Line → V} {ss : List LineStep} {told left_told : Bytes} {old now : V} {rest : List ℕ}
    {steps : List LineStep} {lines : ℕ} where
  -- more was read
  pub more-read : (s : Tallied after ss told left_told old now rest steps lines) (new : Bytes) (piece more : List ℕ) → Consumes left_told new piece
      → more ≡ rest ++ piece → Tallied after ss told new old now more steps lines
  unfolding more-came
  more-read s new piece more took is = record { came = more-came s.came new piece more took is; counts = s.counts }

  -- what is counted of a text and of what comes after it
  counts-more : (s : Tallied after ss told left_told old now rest steps lines) (text : List ℕ)
      → fold after now (answer steps (lines_of text)) ≡ fold after old (answer ss (lines_of (s.came.done ++ text)))
  counts-more s text =
      let done = s.came.done in
      ap (λ c. fold after now (answer c (lines_of text))) s.came.steps_are
      ∙ ap (λ n. fold after n (answer (left ss (lines_of done)) (lines_of text))) s.counts
      ∙ sym (fold-append after old (answer ss (lines_of done)) (answer (left ss (lines_of done)) (lines_of text)))
      ∙ ap (fold after old) (sym (answer-append ss (lines_of done) (lines_of text)))
      ∙ ap (λ ls. fold after old (answer ss ls)) (sym (lines-append done text s.came.whole))

  -- whole lines more were counted
  pub tallied-on : (s : Tallied after ss told left_told old now rest steps lines) (first later : List ℕ) (new : V) (steps' : List LineStep)
      (lines' : ℕ) → rest ≡ first ++ later → is_whole first ≡ true → new ≡ fold after now (answer steps (lines_of first))
      → steps' ≡ left steps (lines_of first) → bad_line steps (lines_of first) ≡ None
      → (has_check steps' ≡ true → lines' ≡ (lines + length (lines_of first)) % 18446744073709551616)
      → Tallied after ss told left_told old new later steps' lines'
  unfolding came-on
  tallied-on s first later new steps' lines' parts whole counts left_are good count = record {
    came = came-on s.came first later steps' lines' parts whole left_are good count;
    counts = counts ∙ counts-more s first;
  }

  -- no line more can come
  pub tallied-over : {A : Type 0} (s : Tallied after ss told left_told old now rest steps lines) → is_over steps ≡ true → (x : A)
      → TakesLines {A = A} after ss told old now (Ok x) steps
  tallied-over s over x =
      let done = s.came.done in
      let all = its-bytes told left_told (done ++ rest) s.came.read in
      let later = rest ++ all.0 in
      let parts : ended ((done ++ rest) ++ all.0) ≡ done ++ ended later =
      ap ended (append_assoc done rest all.0) ∙ ended-append done later s.came.whole in
      let counts : now ≡ fold after old (answer ss (lines_of (ended ((done ++ rest) ++ all.0)))) =
      ap (fold after now) (sym (answer-over steps over (lines_of (ended later))))
      ∙ counts-more s (ended later)
      ∙ ap (λ b. fold after old (answer ss (lines_of b))) (sym parts) in (
        (done ++ rest) ++ all.0,
        all.1,
        counts,
        subst (λ b. MakeTheSame steps (left ss (lines_of b))) (sym parts) (over-same s.came over (ended later)),
        subst (λ b. NoneIsBad ss (lines_of b)) (sym parts) (over-good s.came over (ended later)),
      )

  -- a line of whole lines, or of the last ones, fails a check
  tallied-bad : (s : Tallied after ss told left_told old now rest steps lines) (first later : List ℕ) (n : ℕ) → rest ≡ first ++ later
      → is_whole first ≡ true → bad_line steps (lines_of first) ≡ Some n → FindsBad ss told (behind lines (Check n))
  tallied-bad s first later n parts whole bad =
      let done = s.came.done in
      let all = its-bytes told left_told (done ++ rest) s.came.read in
      let same : (done ++ rest) ++ all.0 ≡ (done ++ first) ++ (later ++ all.0) =
      ap (λ r. (done ++ r) ++ all.0) parts ∙ ap (λ r. r ++ all.0) (sym (append_assoc done first later)) ∙ append_assoc (done ++ first) later all.0 in
      let both = whole-append done first s.came.whole whole in (
        done ++ first,
        later ++ all.0,
        subst (AreItsBytes told) same all.1,
        inl both,
        subst (λ b. IsBadAt ss (lines_of b) ((n + lines) % 18446744073709551616)) (sym (ended-same (done ++ first) both)) (bad-came s.came first n bad),
      )

  tallied-ends-bad : (s : Tallied after ss told left_told old now rest steps lines) (n : ℕ) → IsAtEnd left_told
      → bad_line steps (lines_of (ended rest)) ≡ Some n → FindsBad ss told (behind lines (Check n))
  tallied-ends-bad s n end bad =
      let done = s.came.done in
      let all = all-read told left_told (done ++ rest) s.came.read end in (
        done ++ rest,
        [],
        subst (AreItsBytes told) (sym (append-nil (done ++ rest))) all,
        inr refl,
        subst (λ b. IsBadAt ss (lines_of b) ((n + lines) % 18446744073709551616)) (sym (ended-append done rest s.came.whole))
            (bad-came s.came (ended rest) n bad),
      )

  -- all was read, and the last line is counted
  pub tallied-ends : (s : Tallied after ss told left_told old now rest steps lines) (new : V) (steps' : List LineStep)
      (r : Result (Unit {0}) LinesFault) → IsAtEnd left_told → IfOk r (λ _. new ≡ fold after now (answer steps (lines_of (ended rest))))
      → IfOk r (λ _. steps' ≡ left steps (lines_of (ended rest))) → RoundEnds (bad_line steps (lines_of (ended rest))) r
      → TakesLines after ss told old new (ends_behind lines r) steps'
  tallied-ends s new steps' (Ok x) end counts left_are good =
      let done = s.came.done in
      let parts : ended (done ++ rest) ≡ done ++ ended rest = ended-append done rest s.came.whole in (
        done ++ rest,
        all-read told left_told (done ++ rest) s.came.read end,
        counts ∙ counts-more s (ended rest) ∙ ap (λ b. fold after old (answer ss (lines_of b))) (sym parts),
        λ ls. ap (λ c. answer c ls) (left_are ∙ left-more s.came (ended rest) ∙ ap (λ b. left ss (lines_of b)) (sym parts)),
        λ start. ap (λ b. bad_line ss (lines_of b)) parts
            ∙ bad-more s.came (ended rest) ∙ ap (option_map (λ n. n + length (lines_of done))) good,
      )
  tallied-ends s new steps' (Err fault) end counts left_are ends =
      found-behind ss told lines (bad_line steps (lines_of (ended rest))) fault ends (λ n bad. tallied-ends-bad s n end bad)

  -- a round failed
  pub tallied-broke : (s : Tallied after ss told left_told old now rest steps lines) (first later : List ℕ) (fault : LinesFault) → rest ≡ first ++ later
      → is_whole first ≡ true → RoundEnds {A = Unit {0}} (bad_line steps (lines_of first)) (Err fault) → FindsBad ss told (behind lines fault)
  tallied-broke s first later fault parts whole ends =
      found-behind ss told lines (bad_line steps (lines_of first)) fault ends (λ n bad. tallied-bad s first later n parts whole bad)
