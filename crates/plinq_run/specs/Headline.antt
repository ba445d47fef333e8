-- What an ordered run delivers, in as few words as it takes: the answer of one thread, in batches, or the first of them.
use Rattle.std.specs.Prelude.{◌≡◌, refl, ℕ, zero, suc, pos, negsuc, Bool, true, List, [], ◌∷◌, ◌++◌, ◌+◌, ◌==◌, nat_le, length}
use Rattle.std.specs.Prelude.{take, drop, if◌then◌else◌, Option, Some, None, Result, Ok, Err}
use Rattle.std.specs.List.{range_with_len}
use Rattle.plinq_source.specs.declared.ending.Ending.{Ending}
use Rattle.plinq_source.specs.declared.ending.Ending.TheVariants.{End, Refused, Fault}
use Rattle.plinq_source.specs.Trace.{Trace, ended_trace}
use Rattle.plinq_lambda.specs.Meaning.{Meaning}
use Rattle.plinq_ops.specs.declared.merge_option.MergeOption.{MergeOption}
use Rattle.plinq_ops.specs.declared.merge_option.MergeOption.TheVariants.{Default, NotBuffered, FullyBuffered}
use Rattle.plinq_ops.specs.declared.op.Op.{Op}
use Rattle.plinq_ops.specs.declared.op.Op.TheVariants.{Select, Filter, SelectMany, Take, Skip, TakeWhile, SkipWhile, AsUnordered}
use Rattle.plinq_ops.specs.Operator.{example}
use Rattle.plinq_merge.specs.Sending.{Leads}
use Rattle.plinq_run.specs.declared.report.Report.{Report}
use Rattle.plinq_run.specs.declared.run_fault.RunFault.{RunFault}
use Rattle.plinq_run.specs.declared.run_fault.RunFault.TheVariants.{Sink, Cancelled}

-- these items, and then what that trace has
abbrev pub before : {T : Type 0} → List T → Trace T → Trace T
before xs t = record { items = xs ++ t.items; ending = t.ending }

-- what is made of a lambda's answer; a fault is the ending, and no item comes of it
abbrev pub or_fault : {A T : Type 0} → Result A ℕ → (A → Trace T) → Trace T
or_fault (Ok answer) gives = gives answer
or_fault (Err code) gives = ended_trace [] (Fault code)

-- What becomes of items and an ending. `gives` says it of an item: from the item, the lambda's answer, the trace from that item on,
-- unchanged, and the rest: what becomes of the items after it. So what Filter makes from x on is x before the rest, or the rest
abbrev pub each : {A T : Type 0} → (T → Result A ℕ) → (T → A → Trace T → Trace T → Trace T) → List T → Option Ending → Trace T
each asks gives [] e = record { items = []; ending = e }
each asks gives (x ∷ xs) e = or_fault (asks x) (λ answer. gives x answer (record { items = x ∷ xs; ending = e }) (each asks gives xs e))

-- What an operator makes of a trace, by what its lambda means. Take and TakeWhile end with End where they have their items, whatever
-- follows; a negative number is as 0; AsUnordered does nothing to what one thread answers
abbrev pub does : {L T : Type 0} → (L → Meaning T) → Op L → Trace T → Trace T
does meaning (Select f) t = each (meaning f).map (λ x y unchanged rest. before (y ∷ []) rest) t.items t.ending
does meaning (Filter f) t = each (meaning f).test (λ x passes unchanged rest. if passes then before (x ∷ []) rest else rest) t.items t.ending
does meaning (SelectMany f) t = each (meaning f).expand (λ x ys unchanged rest. before ys rest) t.items t.ending
does meaning (TakeWhile f) t = each (meaning f).test (λ x passes unchanged rest. if passes then before (x ∷ []) rest else ended_trace [] End) t.items t.ending
does meaning (SkipWhile f) t = each (meaning f).test (λ x passes unchanged rest. if passes then rest else unchanged) t.items t.ending
does meaning (Take (pos n)) t = if nat_le n (length t.items) then ended_trace (take n t.items) End else t
does meaning (Take (negsuc n)) t = ended_trace [] End
does meaning (Skip (pos n)) t = record { items = drop n t.items; ending = t.ending }
does meaning (Skip (negsuc n)) t = t
does meaning AsUnordered t = t

-- what one thread answers: the operators one after another
abbrev pub answers : {L T : Type 0} → (L → Meaning T) → List (Op L) → Trace T → Trace T
answers meaning [] t = t
answers meaning (op ∷ ops) t = answers meaning ops (does meaning op t)

-- the items in batches of n, where `hand` has those of the batch that is begun
abbrev pub in_batches : {T : Type 0} → ℕ → List T → List T → List (List T)
in_batches n [] [] = []
in_batches n hand [] = hand ∷ []
in_batches n hand (x ∷ xs) = if length hand + 1 == n then (hand ++ x ∷ []) ∷ in_batches n [] xs else in_batches n (hand ++ x ∷ []) xs

-- The batches in which an answer is handed over. NotBuffered: of 1. FullyBuffered: all items at once before End, and else none.
-- Default, AutoBuffered or no option: of 16, the last perhaps shorter, whatever the ending
abbrev pub handed_over : {T : Type 0} → Option MergeOption → List T → Option Ending → List (List T)
handed_over (Some NotBuffered) xs e = in_batches 1 [] xs
handed_over (Some FullyBuffered) (x ∷ xs) (Some End) = (x ∷ xs) ∷ []
handed_over (Some FullyBuffered) xs e = []
handed_over option xs e = in_batches 16 [] xs

-- What a run of the answer u reports, and which batches its sink, s before and s' after, has taken then: all; those before the next,
-- which it refused; or any first ones. `run` has no cancellation token, so it is never Cancelled
abbrev pub HasDelivered : {K T : Type 0} → (K → List T → K → Type 0) → (K → List T → ℕ → K → Type 0) → Option MergeOption
    → Trace T → K → K → Result Report RunFault → Type 0
HasDelivered accepts refuses option u s s' (Ok report) = (u.ending ≡ Some report.ending) × Leads accepts s (handed_over option u.items u.ending) s'
HasDelivered {K} {T} accepts refuses option u s s' (Err (Sink code)) =
    (sent : List (List T)) × (next : List T) × (rest : List (List T)) × (m : K)
    × (handed_over option u.items u.ending ≡ sent ++ next ∷ rest) × (Leads accepts s sent m) × refuses m next code s'
HasDelivered accepts refuses option u s s' (Err Cancelled) = ⊥
HasDelivered {K} {T} accepts refuses option u s s' (Err fault) =
    (sent : List (List T)) × (rest : List (List T)) × (handed_over option u.items u.ending ≡ sent ++ rest) × Leads accepts s sent s'

-- of 5, 1, 2 and 2 those below 3, of these two, and each less one
filtered_taken_mapped : answers {L = ℕ} (λ _. example) (Filter 0 ∷ Take (pos 2) ∷ Select 0 ∷ []) (ended_trace (5 ∷ 1 ∷ 2 ∷ 2 ∷ []) (Refused 7))
    ≡ ended_trace (0 ∷ 1 ∷ []) End
filtered_taken_mapped = refl

-- a mapping faults at 0, after which nothing comes
expanded_to_a_fault : answers {L = ℕ} (λ _. example) (Select 0 ∷ SelectMany 0 ∷ []) (ended_trace (3 ∷ 0 ∷ 4 ∷ []) End) ≡ ended_trace (2 ∷ 2 ∷ []) (Fault 1)
expanded_to_a_fault = refl

while_below_3 : answers {L = ℕ} (λ _. example) (SkipWhile 0 ∷ TakeWhile 0 ∷ []) (ended_trace (1 ∷ 5 ∷ 2 ∷ []) (Refused 7)) ≡ ended_trace [] End
while_below_3 = refl

abbrev passes_above_0 : ℕ → Result Bool ℕ
passes_above_0 zero = Err 1
passes_above_0 (suc n) = Ok true

-- a test that faults ends the answer
skipped_to_a_fault : answers {L = ℕ} (λ _. record example { test = passes_above_0 }) (SkipWhile 0 ∷ []) (ended_trace (1 ∷ 0 ∷ 5 ∷ []) End)
    ≡ ended_trace [] (Fault 1)
skipped_to_a_fault = refl

filtered_to_a_fault : answers {L = ℕ} (λ _. record example { test = passes_above_0 }) (Filter 0 ∷ []) (ended_trace (1 ∷ 0 ∷ 5 ∷ []) End)
    ≡ ended_trace (1 ∷ []) (Fault 1)
filtered_to_a_fault = refl

taken_to_a_fault : answers {L = ℕ} (λ _. record example { test = passes_above_0 }) (TakeWhile 0 ∷ []) (ended_trace (1 ∷ 0 ∷ 5 ∷ []) End)
    ≡ ended_trace (1 ∷ []) (Fault 1)
taken_to_a_fault = refl

-- what passes after one that didn't stays
skipped_up_to_5 : answers {L = ℕ} (λ _. example) (SkipWhile 0 ∷ []) (ended_trace (1 ∷ 5 ∷ 2 ∷ []) (Refused 7)) ≡ ended_trace (5 ∷ 2 ∷ []) (Refused 7)
skipped_up_to_5 = refl

-- where all pass, or there are too few, the ending stays
all_taken : answers {L = ℕ} (λ _. example) (TakeWhile 0 ∷ Take (pos 3) ∷ []) (ended_trace (1 ∷ 2 ∷ []) (Refused 7)) ≡ ended_trace (1 ∷ 2 ∷ []) (Refused 7)
all_taken = refl

-- a negative number of items is none
none_skipped : answers {L = ℕ} (λ _. example) (Skip (pos 2) ∷ Skip (negsuc 4) ∷ []) (ended_trace (1 ∷ 2 ∷ 3 ∷ []) (Refused 7))
    ≡ ended_trace (3 ∷ []) (Refused 7)
none_skipped = refl

none_taken : answers {L = ℕ} (λ _. example) (Take (negsuc 4) ∷ []) (ended_trace (1 ∷ 2 ∷ 3 ∷ []) (Refused 7)) ≡ ended_trace [] End
none_taken = refl

seventeen : handed_over None (range_with_len 1 17) (Some (Refused 7)) ≡ range_with_len 1 16 ∷ (17 ∷ []) ∷ []
seventeen = refl

sixteen : handed_over (Some Default) (range_with_len 1 16) (Some End) ≡ range_with_len 1 16 ∷ []
sixteen = refl

one_by_one : handed_over {T = ℕ} (Some NotBuffered) (4 ∷ 2 ∷ []) (Some (Fault 1)) ≡ (4 ∷ []) ∷ (2 ∷ []) ∷ []
one_by_one = refl

at_once : handed_over {T = ℕ} (Some FullyBuffered) (4 ∷ 2 ∷ []) (Some End) ≡ (4 ∷ 2 ∷ []) ∷ []
at_once = refl

nothing_before_a_fault : handed_over {T = ℕ} (Some FullyBuffered) (4 ∷ 2 ∷ []) (Some (Fault 1)) ≡ []
nothing_before_a_fault = refl

nothing_of_no_items : handed_over {T = ℕ} (Some FullyBuffered) [] (Some End) ≡ []
nothing_of_no_items = refl
