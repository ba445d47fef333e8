-- Rows of lines, and of what a sink that writes them says of a batch.
use Rattle.std.specs.Prelude.{◌≡◌, refl, ℕ, pos, negsuc, List, [], ◌∷◌, Some, None, Ok, length, codes, take, zero, suc}
use Rattle.std.specs.Fmt.{digits}
use Rattle.std.proofs.Common.{ap, arith}
use Rattle.plinq_source.specs.declared.ending.Ending.TheVariants.{End, Refused, Fault}
use Rattle.plinq_source.specs.Trace.{ended_trace}
use Rattle.plinq_ops.specs.declared.merge_option.MergeOption.TheVariants.{NotBuffered, FullyBuffered}
use Rattle.plinq_lines.specs.AnswerText.{batch_line, single_line, ending_words, ending_line, answer_text}
use Rattle.plinq_lines.specs.AggregateText.{aggregate_text}
use Rattle.plinq_lines.specs.Written.{AppendsBeginning, Writes}
use Rattle.plinq_lines.specs.LineSink.{known_since, StaysKnown, Lines, TakesLine, RefusesLine}

-- ---- lines

a_batch_is_a_line : batch_line (pos 4 ∷ negsuc 1 ∷ []) ≡ codes "4 -2\n"
unfolding digits
a_batch_is_a_line = refl

a_single_number_is_a_line : single_line (pos 4) ≡ codes "4\n"
unfolding digits
a_single_number_is_a_line = refl

an_ending_that_is_well : ending_words End ≡ codes "end"
an_ending_that_is_well = refl

an_ending_with_a_code : ending_words (Refused 17) ≡ codes "refused 17"
unfolding digits
an_ending_with_a_code = refl

an_answer_that_goes_on_has_no_ending : ending_line None ≡ []
an_answer_that_goes_on_has_no_ending = refl

an_answer_before_a_fault : answer_text NotBuffered (ended_trace (pos 4 ∷ []) (Fault 2)) ≡ codes "4\nfault division\n"
unfolding digits
an_answer_before_a_fault = refl

a_full_line_is_kept_back_before_a_fault : answer_text FullyBuffered (ended_trace (pos 4 ∷ []) (Fault 2)) ≡ codes "fault division\n"
a_full_line_is_kept_back_before_a_fault = refl

no_value_before_a_fault : aggregate_text (Some (pos 4)) (Some (Fault 1)) ≡ codes "fault overflow\n"
no_value_before_a_fault = refl

-- ---- what is written

-- the first of some bytes, of which there is one
abbrev first_of : List ℕ → ℕ
first_of [] = 0
first_of (x ∷ xs) = x

half_a_line_is_a_beginning : AppendsBeginning (Some (codes "1\n")) (Some (codes "1\n2")) (codes "23\n")
half_a_line_is_a_beginning = (1, refl)

other_bytes_are_no_beginning : AppendsBeginning (Some []) (Some (7 ∷ [])) (8 ∷ []) → ⊥
other_bytes_are_no_beginning begun = go begun.0 begun.1
  where
    go : (n : ℕ) → ◌≡◌ {A = List ℕ} (7 ∷ []) (take n (8 ∷ [])) → ⊥
    go zero is = let bad : 1 ≡ 0 = ap length is in absurd (omega (arith, bad))
    go (suc n) is = let bad : 7 ≡ 8 = ap first_of is in absurd (omega (arith, bad))

lost_bytes_are_no_beginning : AppendsBeginning (Some (7 ∷ [])) (Some []) (8 ∷ []) → ⊥
lost_bytes_are_no_beginning begun = let bad : 0 ≡ suc (length (take begun.0 (8 ∷ []))) = ap length begun.1 in absurd (omega (arith, bad))

a_line_that_is_only_begun_is_not_written : Writes {A = ℕ} {E = ℕ} (Some []) (Some (7 ∷ [])) (Ok 0) (7 ∷ 8 ∷ []) → ⊥
a_line_that_is_only_begun_is_not_written is = let bad : 1 ≡ 2 = ap length is in absurd (omega (arith, bad))

-- ---- a sink

abbrev sink : List ℕ → ℕ → Lines
sink bytes writer = record { bytes = Some bytes; writer = writer }

unknown_at_first_stays_unknown : known_since None (Some []) ≡ None
unknown_at_first_stays_unknown = refl

known_bytes_are_forgotten : StaysKnown (Some []) None → ⊥
known_bytes_are_forgotten is = is

takes_its_line : TakesLine (sink (codes "1\n") 3) (pos 4 ∷ pos 5 ∷ []) (sink (codes "1\n4 5\n") 3)
unfolding digits
takes_its_line = record { line = refl; writer = refl }

takes_and_writes_nothing : TakesLine (sink [] 3) [] (sink [] 3) → ⊥
takes_and_writes_nothing takes = let bad : 0 ≡ 1 = ap length takes.line in absurd (omega (arith, bad))

takes_and_writes_to_another : (bytes : List ℕ) → TakesLine (sink [] 3) [] (sink bytes 4) → ⊥
takes_and_writes_to_another bytes takes = absurd (omega (arith, takes.writer))

refuses_with_another_code : (bytes : List ℕ) → RefusesLine (sink [] 3) [] 2 (sink bytes 3) → ⊥
refuses_with_another_code bytes refuses = absurd (omega (arith, refuses.code_is))

refuses_and_loses_what_was_there : RefusesLine (sink (7 ∷ []) 3) [] 1 (sink [] 3) → ⊥
refuses_and_loses_what_was_there refuses =
    let bad : 0 ≡ suc (length (take refuses.begun.0 (batch_line []))) = ap length refuses.begun.1 in
    absurd (omega (arith, bad))
