-- Blocks of whole lines make together what their text makes.
use Rattle.std.proofs.Common.{◌≡◌, ℕ, ◌+◌, ◌-◌, ◌<◌, ◌≤◌, nat_le, true, ◌&&◌, List, [], ◌∷◌, ◌++◌, length, take, drop, flat_map, filter_map, suc, subst, Some}
use Rattle.std.proofs.Common.{Option, option_map, false}
use Rattle.std.specs.List.{cons_option}
use Rattle.std.proofs.lemmas.Option.{none-some, same_Some}
use Rattle.std.proofs.Common.{None, Ok, refl, sym, ap, ◌∙◌, arith, take-append-drop, append-nil}
use Rattle.std.proofs.lemmas.List.{drop_all, drop-drop}
use Rattle.std.proofs.lemmas.Bool.{cond-true, and_from, le-leb}
use Rattle.std.proofs.lemmas.Grind.{flat_map-append}
use Rattle.plinq_groups.specs.Mapping.{before_made, mapped_items}
use Rattle.plinq_lambda.specs.Meaning.{Meaning}
use Rattle.plinq_mapped.specs.Mapped.{IsMadeOf, made_of, trace_at}
use Rattle.plinq_ops.specs.Sequential.{answer_of}
use Rattle.plinq_ops.specs.declared.op.Op.{Op}
use Rattle.plinq_source.specs.Trace.{Trace, ended_trace}
use Rattle.plinq_source.specs.declared.ending.Ending.{Ending}
use Rattle.plinq_source.specs.declared.ending.Ending.TheVariants.{End}
use Rattle.plinq_text.specs.declared.line_step.LineStep.{LineStep}
use Rattle.plinq_text.specs.Lines.{AreFull, Line, lines_of, written, is_whole}
use Rattle.plinq_text.specs.Steady.{are_steady, has_check, row_steady, steady_lines}
use Rattle.plinq_text.specs.Steps.{answer, bad_line, left}
use Rattle.plinq_text.proofs.BadLaws.{bad-steady}
use Rattle.plinq_text.proofs.LineLaws.{full-lines, lines-append, lines-nil, lines-written}
use Rattle.plinq_text.proofs.StepLaws.{answer-split, full-answer}
use Rattle.plinq_text.proofs.SteadyLaws.{steady-answer, steady-append, steady-left}
use Rattle.plinq_rounds.specs.declared.block.Span.{Span}
use Rattle.plinq_rounds.specs.inner.Blocks.{AreSteadyBlocks, IsCutFrom, PassesParts, PassesSteady, part_of, steady_bytes}
use Rattle.plinq_rounds.proofs.PassLaws.{no-steps, one-of-lines}

-- what is made of items of which none faults
pub all-made : {T B : Type 0} (f : T → Option B) (xs : List T) → mapped_items (λ x. Ok (f x)) xs ≡ (filter_map f xs, None)
all-made f [] = refl
all-made {B} f (x ∷ xs) = by (f x) (all-made f xs)
  where
    by : (o : Option B) → mapped_items (λ x. Ok (f x)) xs ≡ (filter_map f xs, None)
        → before_made (λ x. Ok (f x)) (Ok o) (mapped_items (λ x. Ok (f x)) xs) ≡ (cons_option o (filter_map f xs), None)
    by None rest = rest
    by (Some y) rest = ap (λ rest. (y ∷ rest.0, rest.1)) rest

-- the block at a place, and what comes after it
part-splits : (text : List ℕ) (from : ℕ) (s : Span) → s.start ≡ from → s.start < s.end → s.end ≤ length text
    → drop from text ≡ part_of text s ++ drop s.end text
part-splits text from s at longer within =
    let here : (nat_le s.start s.end && nat_le s.end (length text)) ≡ true = and_from _ _ (le-leb _ _ (omega arith)) (le-leb _ _ within) in
    let place : s.start + (s.end - s.start) ≡ s.end = omega arith in
    ap (λ n. drop n text) (sym at)
    ∙ sym (take-append-drop (s.end - s.start) (drop s.start text))
    ∙ ap (λ x. take (s.end - s.start) (drop s.start text) ++ x) (drop-drop (s.end - s.start) s.start text ∙ ap (λ n. drop n text) place)
    ∙ ap (λ x. x ++ drop s.end text) (sym (cond-true _ (take (s.end - s.start) (drop s.start text)) [] here))

-- nothing is made of no more items than there are
filtered : {T B : Type 0} (f : T → Option B) (xs : List T) → length (filter_map f xs) ≤ length xs
filtered f [] = omega arith
filtered {B} f (x ∷ xs) = by (f x) (filtered f xs)
  where
    by : (o : Option B) → length (filter_map f xs) ≤ length xs → length (cons_option o (filter_map f xs)) ≤ suc (length xs)
    by None fewer = omega (fewer, arith)
    by (Some y) fewer = omega (fewer, arith)

-- lines of which steps that stay as they are make these
steady-full : (w : List LineStep) (text : List ℕ) (made : List Line) → is_whole text ≡ true → steady_lines w (lines_of text) ≡ Some made → AreFull made
steady-full w text made whole is = subst AreFull (steady-answer w (lines_of text) made is) (full-answer w (lines_of text) (full-lines text whole))

module _ (w : List LineStep) where
  -- of no text nothing is made
  none-made : (text : List ℕ) (from : ℕ) → length text ≤ from → AreSteadyBlocks w (drop from text) []
  none-made text from over = ([], ap (λ t. steady_lines w (lines_of t)) (drop_all from text over) ∙ ap (steady_lines w) lines-nil, refl, refl)

  -- a block more
  block-made : (a b : List ℕ) (made : List Line) (blocks : List (List ℕ)) → is_whole a ≡ true → steady_lines w (lines_of a) ≡ Some made
      → AreSteadyBlocks w b blocks → AreSteadyBlocks w (a ++ b) (written made ∷ blocks)
  block-made a b made blocks whole is rest = (
    made ++ rest.0,
    ap (steady_lines w) (lines-append a b whole) ∙ steady-append (row_steady w) (lines_of a) (lines_of b) made rest.0 is rest.1,
    ap (λ x. written made ++ x) rest.2 ∙ sym (flat_map-append (λ (l : Line). l.text ++ l.end) made rest.0),
    ap (λ x. x ++ flat_map lines_of blocks) (lines-written made (steady-full w a made whole is)) ∙ ap (λ x. made ++ x) rest.3,
  )

  -- blocks of which something is made
  pub blocks-made : (text : List ℕ) (from : ℕ) (ss : List Span) → IsCutFrom text from ss
      → length ss ≤ length (filter_map (λ s. steady_bytes w (part_of text s)) ss)
      → AreSteadyBlocks w (drop from text) (filter_map (λ s. steady_bytes w (part_of text s)) ss)
  unfolding IsCutFrom
  blocks-made text from [] over all = none-made text from over
  blocks-made text from (s ∷ ss) cut all =
      by (steady_lines w (lines_of (part_of text s))) refl (blocks-made text s.end ss cut.4) all
    where
      others : List (List ℕ)
      others = filter_map (λ s. steady_bytes w (part_of text s)) ss

      by : (o : Option (List Line)) → steady_lines w (lines_of (part_of text s)) ≡ o
          → (length ss ≤ length others → AreSteadyBlocks w (drop s.end text) others)
          → suc (length ss) ≤ length (cons_option (option_map written o) others)
          → AreSteadyBlocks w (drop from text) (cons_option (option_map written o) others)
      by None is rest all = let fewer = filtered (λ s. steady_bytes w (part_of text s)) ss in absurd (omega (all, fewer, arith))
      by (Some made) is rest all =
          subst (λ t. AreSteadyBlocks w t (written made ∷ others)) (sym (part-splits text from s cut.0 cut.1 cut.2))
          (block-made (part_of text s) (drop s.end text) made others cut.3 is (rest (omega (all, arith))))

  -- a text in one block
  pub one-made : (text b : List ℕ) → is_whole text ≡ true → Some b ≡ steady_bytes w text → AreSteadyBlocks w text (b ∷ [])
  one-made text b whole is = by (steady_lines w (lines_of text)) refl is
    where
      by : (o : Option (List Line)) → steady_lines w (lines_of text) ≡ o → Some b ≡ option_map written o → AreSteadyBlocks w text (b ∷ [])
      by None is same = absurd (none-some _ (sym same))
      by (Some made) is same =
          let bytes = same_Some _ _ same in
          (made, is, append-nil b ∙ bytes, append-nil (lines_of b) ∙ ap lines_of bytes ∙ lines-written made (steady-full w text made whole is))

-- a block more in front
pub cut-more : (text : List ℕ) (from end : ℕ) (more : List Span) → from < end → end ≤ length text → is_whole (take (end - from) (drop from text)) ≡ true
    → IsCutFrom text end more → IsCutFrom text from (record { start = from; end = end } ∷ more)
unfolding IsCutFrom
cut-more text from end more longer within whole rest =
    let here : (nat_le from end && nat_le end (length text)) ≡ true = and_from _ _ (le-leb _ _ (omega arith)) (le-leb _ _ within) in
    (refl, longer, within, ap is_whole (cond-true _ (take (end - from) (drop from text)) [] here) ∙ whole, rest)

pub cut-over : (text : List ℕ) (from : ℕ) → length text ≤ from → IsCutFrom text from []
unfolding IsCutFrom
cut-over text from over = over

-- what is made of a list of spans by a query without a step
pub from-made : {L : Type 0} (f : Span → Option (List ℕ)) (meaning : L → Meaning Span) (ops : List (Op L)) (whole : Trace Span) (spans : List Span)
    (ys : List (List ℕ)) (e : Ending)
    → ops ≡ [] → whole ≡ ended_trace spans End → IsMadeOf (λ s. Ok (f s)) (answer_of meaning ops whole) ys e → ys ≡ filter_map f spans
from-made f meaning ops whole spans ys e none given is =
    let same : answer_of meaning ops whole ≡ ended_trace spans End = ap (λ o. answer_of meaning o whole) none ∙ given in
    ap (λ t. t.items) (is ∙ ap (made_of (λ s. Ok (f s))) same) ∙ ap (λ m. (trace_at m.0 m.1 (Some End)).items) (all-made f spans)

-- blocks by two rows of steps are those of the whole row
pub parts-steady : (steps w c c' : List LineStep) (text : List ℕ) (made : Option (List (List ℕ))) → steps ≡ w ++ c → are_steady w ≡ true
    → has_check c ≡ false → PassesParts w c c' text made → PassesSteady steps (w ++ c') (lines_of text) made
parts-steady steps w c c' text None split are free p = ap (λ x. w ++ x) p ∙ sym split
parts-steady steps w c c' text (Some blocks) split are free p =
    let lines = lines_of text in
    let all : answer c p.0 ≡ answer steps lines =
    ap (answer c) (sym (steady-answer w lines p.0 p.1)) ∙ sym (answer-split w c lines) ∙ ap (λ ss. answer ss lines) (sym split) in (
      p.2 ∙ ap written all,
      p.3 ∙ all,
      ap (λ x. w ++ x) p.4 ∙ sym (steady-left w c lines p.0 p.1) ∙ ap (λ ss. left ss lines) (sym split),
      ap (λ ss. bad_line ss lines) split ∙ bad-steady w c lines p.0 are free p.1,
    )

-- blocks that go through no step more
pub parts-alone : (w c : List LineStep) (text : List ℕ) (blocks : List (List ℕ)) → length c ≡ 0 → AreSteadyBlocks w text blocks
    → PassesParts w c c text (Some blocks)
parts-alone w c text blocks none made =
    let same = no-steps c none made.0 in
    (made.0, made.1, made.2 ∙ ap written (sym same.0), made.3 ∙ sym same.0, same.1)

-- or through others
pub parts-both : (w c c' : List LineStep) (text : List ℕ) (blocks passed : List (List ℕ)) (bytes : List ℕ) → is_whole text ≡ true
    → AreSteadyBlocks w text blocks → bytes ≡ written (answer c (flat_map lines_of blocks)) → c' ≡ left c (flat_map lines_of blocks)
    → passed ≡ bytes ∷ [] → PassesParts w c c' text (Some passed)
parts-both w c c' text blocks passed bytes whole made is rest one =
    let block = one-of-lines passed bytes (answer c made.0) (full-answer c made.0 (steady-full w text made.0 whole made.1)) one
    (is ∙ ap (λ ls. written (answer c ls)) made.3) in
    (made.0, made.1, block.0, block.1, rest ∙ ap (left c) made.3)
