-- The lines that the program prints for an aggregated answer.
use Rattle.std.specs.Prelude.{◌≡◌, ℕ, ℤ, pos, negsuc, List, [], ◌++◌, Option, Some, None, codes, refl}
use Rattle.std.specs.Fmt.{signed_decimal, digits}
use Rattle.plinq_source.specs.declared.ending.Ending.{Ending}
use Rattle.plinq_source.specs.declared.ending.Ending.TheVariants.{End, Refused, Fault}
use Rattle.plinq_lines.specs.AnswerText.{line, ending_line}

-- a value by its decimal, or the word for none
abbrev pub value_words : Option ℤ → List ℕ
value_words None = codes "none"
value_words (Some x) = signed_decimal x

-- a value is a line of its own
abbrev pub value_line : Option ℤ → List ℕ
value_line value = line (value_words value)

-- the value's line, where the answer ended well
abbrev pub told_value : Option ℤ → Option Ending → List ℕ
told_value value None = []
told_value value (Some End) = value_line value
told_value value (Some (Refused code)) = []
told_value value (Some (Fault code)) = []

-- an aggregated answer: its value, if it ended well, and then the line of its ending
abbrev pub aggregate_text : Option ℤ → Option Ending → List ℕ
aggregate_text value ending = told_value value ending ++ ending_line ending

-- ---- worked rows

pub a_sum : aggregate_text (Some (negsuc 18446744073709551615)) (Some End) ≡ codes "-18446744073709551616\nend\n"
unfolding digits
a_sum = refl

pub none_has_no_value : aggregate_text None (Some End) ≡ codes "none\nend\n"
none_has_no_value = refl

pub no_value_before_a_refusal : aggregate_text (Some (pos 3)) (Some (Refused 7)) ≡ codes "refused 7\n"
unfolding digits
no_value_before_a_refusal = refl
