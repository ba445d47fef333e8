-- The lines that the program prints for an answer.
use Rattle.std.specs.Prelude.{◌≡◌, ℕ, ℤ, pos, negsuc, List, [], ◌∷◌, ◌++◌, ◌==◌, if◌then◌else◌, Option, Some, None, codes, decimal, refl}
use Rattle.std.specs.List.{flat_map}
use Rattle.std.specs.Fmt.{signed_decimal, digits}
use Rattle.plinq_source.specs.declared.ending.Ending.{Ending}
use Rattle.plinq_source.specs.declared.ending.Ending.TheVariants.{End, Refused, Fault}
use Rattle.plinq_source.specs.Trace.{Trace, ended_trace}
use Rattle.plinq_lambda.specs.Formula.{overflow, divide_by_zero, too_many}
use Rattle.plinq_ops.specs.declared.merge_option.MergeOption.{MergeOption}
use Rattle.plinq_ops.specs.declared.merge_option.MergeOption.TheVariants.{NotBuffered}
use Rattle.plinq_ops.specs.Batches.{batches}

-- a line is its text and a line feed
abbrev pub line : List ℕ → List ℕ
line text = text ++ 10 ∷ []

-- a number after another: a space, and its decimal
abbrev pub further_number : ℤ → List ℕ
further_number x = 32 ∷ signed_decimal x

-- decimals parted by one space
abbrev pub numbers : List ℤ → List ℕ
numbers [] = []
numbers (x ∷ xs) = signed_decimal x ++ flat_map further_number xs

-- a batch is a line of its numbers
abbrev pub batch_line : List ℤ → List ℕ
batch_line xs = line (numbers xs)

-- the line of a batch of one
abbrev pub single_line : ℤ → List ℕ
single_line x = batch_line (x ∷ [])

-- a formula's fault by its name
abbrev pub fault_word : ℕ → List ℕ
fault_word code =
    if code == overflow then codes "overflow" else (if code == divide_by_zero then codes "division" else codes "toomany")

-- how the answer ended, in words
abbrev pub ending_words : Ending → List ℕ
ending_words End = codes "end"
ending_words (Refused code) = codes "refused " ++ decimal code
ending_words (Fault code) = codes "fault " ++ fault_word code

-- the last line, if the answer has ended
abbrev pub ending_line : Option Ending → List ℕ
ending_line None = []
ending_line (Some e) = line (ending_words e)

-- an answer: its batches, a line each, and then the line of its ending
abbrev pub answer_text : MergeOption → Trace ℤ → List ℕ
answer_text option u = flat_map batch_line (batches option u) ++ ending_line u.ending

-- ---- worked rows

pub one_item_a_line : answer_text NotBuffered (ended_trace (pos 4 ∷ pos 2 ∷ pos 5 ∷ []) End) ≡ codes "4\n2\n5\nend\n"
unfolding digits
one_item_a_line = refl

pub numbers_of_each_sign : batch_line (negsuc 11 ∷ pos 0 ∷ pos 345 ∷ []) ≡ codes "-12 0 345\n"
unfolding digits
numbers_of_each_sign = refl

pub a_refusal : line (ending_words (Refused 7)) ≡ codes "refused 7\n"
unfolding digits
a_refusal = refl

pub each_fault : line (ending_words (Fault overflow)) ++ line (ending_words (Fault divide_by_zero)) ++ line (ending_words (Fault too_many))
    ≡ codes "fault overflow\nfault division\nfault toomany\n"
each_fault = refl
