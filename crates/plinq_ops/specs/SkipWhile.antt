-- SkipWhile: nothing of the items before the first that fails the test, and all from that one on.
use Rattle.std.specs.Prelude.{◌≡◌, refl, ℕ, zero, suc, nat_lt, List, [], ◌∷◌, Bool, true, false, Option, None, Some, Result, Ok, Err}
use Rattle.plinq_source.specs.declared.ending.Ending.{Ending}
use Rattle.plinq_source.specs.declared.ending.Ending.TheVariants.{End, Refused, Fault}
use Rattle.plinq_source.specs.Trace.{Trace, open_trace, ended_trace}

-- by what the test says of the first of xs: where it passes, the answer is `rest`, that of those after it; where it fails, it is
-- xs, and none after the first is tested; a fault ends what the operator gives
abbrev pub skipped_from : {T : Type 0} → Result Bool ℕ → List T → Option Ending → Trace T → Trace T
skipped_from (Ok true) xs e rest = rest
skipped_from (Ok false) xs e rest = record { items = xs; ending = e }
skipped_from (Err code) xs e rest = ended_trace [] (Fault code)

-- the items from the first that fails the test on, none after it tested; where all pass no items
abbrev pub skipped_while : {T : Type 0} → (T → Result Bool ℕ) → List T → Option Ending → Trace T
skipped_while test [] e = record { items = []; ending = e }
skipped_while test (x ∷ xs) e = skipped_from (test x) (x ∷ xs) e (skipped_while test xs e)

abbrev pub still_skips : Result Bool ℕ → Bool → Bool
still_skips (Ok true) rest = rest
still_skips (Ok false) rest = false
still_skips (Err code) rest = false

-- whether all these items pass
abbrev pub all_pass : {T : Type 0} → (T → Result Bool ℕ) → List T → Bool
all_pass test [] = true
all_pass test (x ∷ xs) = still_skips (test x) (all_pass test xs)

-- whether a number is below 5; 0 faults
abbrev example_test : ℕ → Result Bool ℕ
example_test zero = Err 1
example_test (suc n) = Ok (nat_lt (suc n) 5)

-- the item that fails stays, and so does each after it, whether it passes or faults
from_the_first_that_fails : skipped_while example_test (1 ∷ 2 ∷ 9 ∷ 3 ∷ 0 ∷ []) (Some (Refused 7)) ≡ ended_trace (9 ∷ 3 ∷ 0 ∷ []) (Refused 7)
from_the_first_that_fails = refl

fault_before_one_fails : skipped_while example_test (1 ∷ 0 ∷ 9 ∷ []) (Some End) ≡ ended_trace [] (Fault 1)
fault_before_one_fails = refl

where_all_pass : skipped_while example_test (1 ∷ 2 ∷ []) (Some (Refused 7)) ≡ ended_trace [] (Refused 7)
where_all_pass = refl

where_more_may_come : skipped_while example_test (1 ∷ 2 ∷ []) None ≡ open_trace []
where_more_may_come = refl
