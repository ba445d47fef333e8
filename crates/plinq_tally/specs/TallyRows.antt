-- Worked rows of tallies.
use Rattle.std.specs.Prelude.{◌≡◌, refl, [], ◌∷◌, codes}
use Rattle.plinq_text.specs.Lines.{full_line}
use Rattle.std.specs.Fmt.{digits}
use Rattle.plinq_tally.specs.Tallies.{tallied, tally_text, total}

first_texts_stand_first : tallied [] (full_line (codes "b") ∷ full_line (codes "a") ∷ full_line (codes "b") ∷ []) ≡ (codes "b", 2) ∷ (codes "a", 1) ∷ []
first_texts_stand_first = refl

an_empty_text_counts : tallied ((codes "a", 7) ∷ []) (full_line [] ∷ full_line (codes "a") ∷ []) ≡ (codes "a", 8) ∷ ([], 1) ∷ []
an_empty_text_counts = refl

a_line_for_each : tally_text ((codes "b", 12) ∷ ([], 1) ∷ []) ≡ codes "12\tb\n1\t\n"
unfolding digits
a_line_for_each = refl

all_that_came : total ((codes "b", 12) ∷ ([], 1) ∷ []) ≡ 13
all_that_came = refl
