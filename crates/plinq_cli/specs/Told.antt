-- What is reported of a query's answer: its batches, or the value of its aggregate, and what threads report of the latter.
use Rattle.std.specs.Prelude.{◌≡◌, ◌≢◌, ℕ, ℤ, pos, negsuc, Bool, true, false, List, [], ◌∷◌, ◌++◌, Option, Some, None, Result, Ok, Err, codes, refl}
use Rattle.std.specs.Int.{int_wrap, int_min, int_max}
use Rattle.std.specs.List.{flat_map}
use Rattle.std.specs.Fmt.{digits}
use Rattle.plinq_source.specs.Trace.{Trace, ended_trace}
use Rattle.plinq_source.specs.declared.ending.Ending.{Ending}
use Rattle.plinq_source.specs.declared.ending.Ending.TheVariants.{End, Refused}
use Rattle.plinq_aggregate.specs.Folding.{aggregate_value}
use Rattle.plinq_aggregate.specs.Numbers.{summing, counting, picking}
use Rattle.plinq_run.specs.declared.aggregate_fault.AggregateFault.{AggregateFault}
use Rattle.plinq_run.specs.declared.aggregate_fault.AggregateFault.TheVariants.{Ended, Run}
use Rattle.plinq_run.specs.Runs.{Other, cause_of}
use Rattle.plinq_ops.specs.declared.merge_option.MergeOption.{MergeOption}
use Rattle.plinq_ops.specs.declared.merge_option.MergeOption.TheVariants.{NotBuffered}
use Rattle.plinq_document.specs.declared.kind.Kind.{Kind}
use Rattle.plinq_document.specs.declared.kind.Kind.TheVariants.{Sum, Count, Min, Max}
use Rattle.plinq_ops.specs.Batches.{batches}
use Rattle.plinq_lines.specs.AnswerText.{answer_text, batch_line, ending_line}
use Rattle.plinq_lines.specs.AggregateText.{aggregate_text, told_value}

-- the value of an aggregate of these items, if they have one
abbrev pub kind_value : Kind → List ℤ → Option ℤ
kind_value Sum xs = Some (aggregate_value summing xs)
kind_value Count xs = Some (pos (aggregate_value counting xs))
kind_value Min xs = aggregate_value (picking int_min) xs
kind_value Max xs = aggregate_value (picking int_max) xs

-- the line of an answer's ending, which a plain answer doesn't have
abbrev pub last_line : Bool → Option Ending → List ℕ
last_line true ending = []
last_line false ending = ending_line ending

-- the lines of an answer: its batches, or where an aggregate is asked for its value, and then its ending, unless it is plain
abbrev pub told_text : Bool → Option Kind → MergeOption → Trace ℤ → List ℕ
told_text plain None option u = flat_map batch_line (batches option u) ++ last_line plain u.ending
told_text plain (Some kind) option u = told_value (kind_value kind u.items) u.ending ++ last_line plain u.ending

-- an answer that isn't plain is the text of an answer, or of an aggregated one
pub an_answer_that_is_not_plain : (option : MergeOption) (u : Trace ℤ) → told_text false None option u ≡ answer_text option u
an_answer_that_is_not_plain option u = refl

pub a_value_that_is_not_plain : (kind : Kind) (option : MergeOption) (u : Trace ℤ) → told_text false (Some kind) option u
    ≡ aggregate_text (kind_value kind u.items) u.ending
a_value_that_is_not_plain kind option u = refl

-- this is the value of an answer's items, and how the answer ends
abbrev pub IsValueOf : {T O : Type 0} → (List T → O) → Trace T → O × Ending → Type 0
IsValueOf value u told = (told.0 ≡ value u.items) × (u.ending ≡ Some told.1)

-- the value of one of these answers was reported if it ended well, else how it ended; or none was, never since a sink refused
abbrev pub TellsValue : (List ℤ → Option ℤ) → (Trace ℤ → Type 0) → Result (Option ℤ) AggregateFault → Type 0
TellsValue value Is (Ok v) = (u : Trace ℤ) × Is u × (v ≡ value u.items) × (u.ending ≡ Some End)
TellsValue value Is (Err (Ended e)) = (u : Trace ℤ) × Is u × (u.ending ≡ Some e) × (e ≢ End)
TellsValue value Is (Err (Run fault)) = cause_of fault ≡ Other

-- ---- worked rows

pub least_twice : told_text false (Some Sum) NotBuffered (ended_trace (negsuc 9223372036854775807 ∷ negsuc 9223372036854775807 ∷ []) End)
    ≡ codes "-18446744073709551616\nend\n"
unfolding digits int_wrap
least_twice = refl

pub five_are_counted : told_text false (Some Count) NotBuffered (ended_trace (pos 2 ∷ pos 4 ∷ pos 6 ∷ pos 8 ∷ pos 10 ∷ []) End) ≡ codes "5\nend\n"
unfolding digits
five_are_counted = refl

pub none_has_no_least : told_text false (Some Min) NotBuffered (ended_trace [] End) ≡ codes "none\nend\n"
none_has_no_least = refl

pub greatest_of_three : told_text false (Some Max) NotBuffered (ended_trace (pos 3 ∷ pos 9 ∷ pos 4 ∷ []) End) ≡ codes "9\nend\n"
unfolding digits
greatest_of_three = refl

pub no_sum_before_a_refusal : told_text false (Some Sum) NotBuffered (ended_trace (pos 1 ∷ pos 2 ∷ []) (Refused 7)) ≡ codes "refused 7\n"
unfolding digits
no_sum_before_a_refusal = refl

pub a_plain_sum : told_text true (Some Sum) NotBuffered (ended_trace (pos 2 ∷ pos 4 ∷ []) End) ≡ codes "6\n"
unfolding digits int_wrap
a_plain_sum = refl

pub plain_elements : told_text true None NotBuffered (ended_trace (pos 1 ∷ pos 2 ∷ []) (Refused 7)) ≡ codes "1\n2\n"
unfolding digits
plain_elements = refl

pub a_plain_refusal_has_no_value : told_text true (Some Sum) NotBuffered (ended_trace (pos 1 ∷ pos 2 ∷ []) (Refused 7)) ≡ []
a_plain_refusal_has_no_value = refl
