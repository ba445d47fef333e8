-- What offered results show: the trace that they merge to, and its batches.
use Rattle.std.specs.Prelude.{◌≡◌, refl, ℕ, ◌==◌, List, [], ◌∷◌, map, Bool, if◌then◌else◌, Option, Some, None}
use Rattle.std.specs.Option.{option_or}
use Rattle.std.specs.Global.{Vec}
use Rattle.plinq_source.specs.declared.ending.Ending.{Ending}
use Rattle.plinq_source.specs.declared.ending.Ending.TheVariants.{End, Refused, Fault}
use Rattle.plinq_source.specs.Trace.{Trace, open_trace, ended_trace, followed_by}
use Rattle.plinq_keyed.specs.declared.tail.Tail.{Tail}
use Rattle.plinq_keyed.specs.declared.tail.Tail.TheVariants.{Ended}
use Rattle.plinq_ops.specs.declared.order.Order.{Order}
use Rattle.plinq_ops.specs.declared.order.Order.TheVariants.{ByKey, ByArrival}
use Rattle.plinq_ops.specs.declared.frag_end.FragEnd.{FragEnd}
use Rattle.plinq_ops.specs.declared.frag_end.FragEnd.TheVariants.{More, Fault as Faults}
use Rattle.plinq_ops.specs.declared.results.ChunkResult.{ChunkResult}
use Rattle.plinq_ops.specs.Stage.{Stage, seq}
use Rattle.plinq_ops.specs.Batches.{batches_from}
use Rattle.plinq_ops.specs.Chunk.{result_trace}
use Rattle.plinq_ops.specs.Tails.{end_of_result, told_at}
use Rattle.plinq_ops.specs.Row.{all_followed}
use Rattle.plinq_reorder.specs.Intervals.{Interval, insert, unbroken_row, first_gap}

-- what is merged as soon as it arrives: nothing by key, the result by arrival
abbrev pub at_once : {T : Type 0} → Order → ChunkResult T → Trace T
at_once ByKey r = open_trace []
at_once ByArrival r = result_trace r

-- what waits for its keys' turn: the result by key, and by arrival nothing but the keys
abbrev pub waiting_trace : {T : Type 0} → Order → ChunkResult T → Trace T
waiting_trace ByKey r = result_trace r
waiting_trace ByArrival r = open_trace []

-- the interval of a result among the others; one of no keys has none
abbrev pub placed_intervals : {T : Type 0} → Order → List (Interval (Trace T)) → ChunkResult T → List (Interval (Trace T))
placed_intervals order ps r = if r.count == 0 then ps else insert ps r.first (end_of_result r) (waiting_trace order r)

abbrev pub all_placed : {T : Type 0} → Order → List (Interval (Trace T)) → List (ChunkResult T) → List (Interval (Trace T))
all_placed order ps [] = ps
all_placed order ps (r ∷ rs) = all_placed order (placed_intervals order ps r) rs

-- the first that was reported
abbrev pub all_told : {T : Type 0} → Option (ℕ × Ending) → List (ChunkResult T) → Option (ℕ × Ending)
all_told source_end [] = source_end
all_told source_end (r ∷ rs) = all_told (option_or source_end (told_at (end_of_result r) r.tail)) rs

-- the source's ending, if this is its place
abbrev pub ending_at : Option (ℕ × Ending) → ℕ → Option Ending
ending_at None key = None
ending_at (Some at) key = if at.0 == key then Some at.1 else None

-- what intervals give one after another, up to and with the first that ends the run
abbrev pub all_given : {T : Type 0} → List (Interval (Trace T)) → Trace T
all_given ps = all_followed (map (λ p. p.1.payload) ps)

-- the unbroken row of keys from this one on; after it the source's ending, if the first gap is its place
abbrev pub row : {T : Type 0} → Option (ℕ × Ending) → ℕ → List (Interval (Trace T)) → Trace T
row source_end key ps = followed_by (all_given (unbroken_row key ps)) (record { items = []; ending = ending_at source_end (first_gap key ps) })

-- what was merged at once, in the order of arrival
abbrev pub arrived_trace : {T : Type 0} → Order → List (ChunkResult T) → Trace T
arrived_trace order [] = open_trace []
arrived_trace order (r ∷ rs) = followed_by (at_once order r) (arrived_trace order rs)

-- the results merged: by key their unbroken row from key 0 on, by arrival each as it came, and the source's ending
-- where all keys before it were offered
abbrev pub merged_trace : {T : Type 0} → Order → List (ChunkResult T) → Trace T
merged_trace order offers = followed_by (arrived_trace order offers) (row (all_told None offers) 0 (all_placed order [] offers))

-- what a merger is made for: the operators after the merge, the order, whether the plan was decided from the start, and
-- after how many items a batch is full
pub record Merge (T : Type 0) : Type 0 where
  pub after : List (Stage T)
  pub order : Order
  pub decided : Bool
  pub size : Option ℕ

-- the answer so far; that of a decided plan is nothing and the end
abbrev pub answer : {T : Type 0} → Merge T → List (ChunkResult T) → Trace T
answer merge offers = if merge.decided then ended_trace [] End else seq merge.after (merged_trace merge.order offers)

-- its batches so far
abbrev pub shown_batches : {T : Type 0} → Merge T → List (ChunkResult T) → List (List T)
shown_batches merge offers = batches_from merge.size [] (answer merge offers)

-- ---- worked rows

-- keys 0 and 1, a gap at 2, and key 3
abbrev row_with_a_gap : Option (ℕ × Ending) → Trace ℕ
row_with_a_gap source_end =
    row source_end 0 ((0, record { end = 2; payload = open_trace (4 ∷ 2 ∷ []) }) ∷ (3, record { end = 4; payload = open_trace (9 ∷ []) }) ∷ [])

up_to_the_gap : row_with_a_gap None ≡ open_trace (4 ∷ 2 ∷ [])
up_to_the_gap = refl

-- a tail after the gap isn't reached
tail_after_a_gap : row_with_a_gap (Some (4, End)) ≡ open_trace (4 ∷ 2 ∷ [])
tail_after_a_gap = refl

tail_in_its_place : row_with_a_gap (Some (2, Refused 3)) ≡ ended_trace (4 ∷ 2 ∷ []) (Refused 3)
tail_in_its_place = refl

nothing_after_a_fault : row {T = ℕ} (Some (2, End)) 0
    ((0, record { end = 1; payload = ended_trace (4 ∷ []) (Fault 1) }) ∷ (1, record { end = 2; payload = open_trace (2 ∷ []) }) ∷ [])
    ≡ ended_trace (4 ∷ []) (Fault 1)
nothing_after_a_fault = refl

-- the result of one element
abbrev one_element : ℕ → Vec ℕ → FragEnd → Option Tail → ChunkResult ℕ
one_element first items ending tail = record { first = first; count = 1; items = items; ending = ending; stop = None; tail = tail }

-- the later key comes first, with the source's end
abbrev later_first : Order → Vec ℕ → Vec ℕ → FragEnd → Trace ℕ
later_first order early late ending = merged_trace order (one_element 1 late ending (Some Ended) ∷ one_element 0 early More None ∷ [])

by_key_in_the_order_of_keys : (early late : Vec ℕ) → early.items ≡ 4 ∷ [] → late.items ≡ 2 ∷ []
    → later_first ByKey early late More ≡ ended_trace (4 ∷ 2 ∷ []) End
by_key_in_the_order_of_keys early late four two = rw (four, two) refl

by_arrival_as_they_came : (early late : Vec ℕ) → early.items ≡ 4 ∷ [] → late.items ≡ 2 ∷ []
    → later_first ByArrival early late More ≡ ended_trace (2 ∷ 4 ∷ []) End
by_arrival_as_they_came early late four two = rw (four, two) refl

-- a fault of the later key
by_key_the_fault_is_last : (early late : Vec ℕ) → early.items ≡ 4 ∷ [] → late.items ≡ 2 ∷ []
    → later_first ByKey early late (Faults 1) ≡ ended_trace (4 ∷ 2 ∷ []) (Fault 1)
by_key_the_fault_is_last early late four two = rw (four, two) refl

by_arrival_the_fault_is_first : (early late : Vec ℕ) → early.items ≡ 4 ∷ [] → late.items ≡ 2 ∷ []
    → later_first ByArrival early late (Faults 1) ≡ ended_trace (2 ∷ []) (Fault 1)
by_arrival_the_fault_is_first early late four two = rw two refl

-- without key 0 nothing is merged by key, and by arrival the end isn't reached
by_key_a_gap : (late : Vec ℕ) → late.items ≡ 2 ∷ [] → merged_trace ByKey (one_element 1 late More (Some Ended) ∷ []) ≡ open_trace []
by_key_a_gap late two = refl

by_arrival_a_gap : (late : Vec ℕ) → late.items ≡ 2 ∷ [] → merged_trace ByArrival (one_element 1 late More (Some Ended) ∷ []) ≡ open_trace (2 ∷ [])
by_arrival_a_gap late two = rw two refl
