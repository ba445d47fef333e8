-- Worked rows of patterns.
use Rattle.std.proofs.Common.{◌≡◌, refl, codes, true, false, []}
use Rattle.regex.proofs.OnLiterals.{regex_on_literals}
use Rattle.regex_hir.specs.Find.{find, first_from}
use Rattle.regex_hir.specs.Looks.{holds, holds_between}
use Rattle.regex_hir.specs.Re.{attempt, rounds}
use Rattle.regex_hir.specs.Text.{byte_before, has_bytes_at}
use Rattle.plinq_text.specs.Patterns.{pattern_finds}

found_within : pattern_finds (codes "a+b") (codes "xaab") ≡ true
unfolding regex_on_literals find first_from attempt rounds has_bytes_at
found_within = refl

not_the_whole : pattern_finds (codes "^a+b$") (codes "xaab") ≡ false
unfolding regex_on_literals find first_from attempt holds holds_between byte_before has_bytes_at
not_the_whole = refl

the_whole : pattern_finds (codes "^a+b$") (codes "aab") ≡ true
unfolding regex_on_literals find first_from attempt rounds holds holds_between byte_before has_bytes_at
the_whole = refl

no_pattern_finds_nothing : pattern_finds (codes "a(") (codes "a(") ≡ false
unfolding regex_on_literals
no_pattern_finds_nothing = refl

nothing_is_everywhere : pattern_finds [] (codes "a") ≡ true
unfolding regex_on_literals find first_from attempt
nothing_is_everywhere = refl
