-- Traces: what a source or a query gives, item by item, and how it ends.
use Rattle.std.specs.Prelude.{ℕ, ◌+◌, ◌-◌, List, [], ◌∷◌, ◌++◌, length, drop, take, min, nat_lt, if◌then◌else◌, Option, Some, None, ⊤}
use Rattle.plinq_source.specs.declared.ending.Ending.{Ending}
use Rattle.plinq_source.specs.declared.ending.Ending.TheVariants.{End, Refused, Fault}
use Rattle.plinq_source.specs.declared.step.Step.{Step}
use Rattle.plinq_source.specs.declared.step.Step.TheVariants.{Item, End as StepEnd, Refused as StepRefused}

-- a list of items and how it ends; with no ending yet, more may come
pub record Trace (T : Type 0) : Type 0 where
  pub items : List T
  pub ending : Option Ending

-- the items, with more to come
abbrev pub open_trace : {T : Type 0} → List T → Trace T
open_trace xs = record { items = xs; ending = None }

-- the items, and then that ending
abbrev pub ended_trace : {T : Type 0} → List T → Ending → Trace T
ended_trace xs e = record { items = xs; ending = Some e }

-- the items, and where there is no ending yet all of what comes after
abbrev pub continued_by : {T : Type 0} → List T → Option Ending → Trace T → Trace T
continued_by xs None after = record { items = xs ++ after.items; ending = after.ending }
continued_by xs (Some e) after = ended_trace xs e

-- the first trace, and where it is open the second after it
abbrev pub followed_by : {T : Type 0} → Trace T → Trace T → Trace T
followed_by before after = continued_by before.items before.ending after

-- a source ends or refuses; it has no faults and doesn't stay open
abbrev pub IsSourceEnding : Option Ending → Type 0
IsSourceEnding None = ⊥
IsSourceEnding (Some End) = ⊤
IsSourceEnding (Some (Refused c)) = ⊤
IsSourceEnding (Some (Fault c)) = ⊥

-- what a source says that has these items left and then this ending
abbrev pub step_of : {T : Type 0} → List T → Option Ending → Step T
step_of (x ∷ xs) e = Item x
step_of [] None = StepEnd
step_of [] (Some End) = StepEnd
step_of [] (Some (Refused c)) = StepRefused c
step_of [] (Some (Fault c)) = StepEnd

-- the answer when the first n items were handed out: item number n, else the ending
abbrev pub step_at : {T : Type 0} → Trace T → ℕ → Step T
step_at t n = step_of (drop n t.items) t.ending

-- how many items are handed out then: one more, but never more than there are
abbrev pub given_after : {T : Type 0} → Trace T → ℕ → ℕ
given_after t n = min (n + 1) (length t.items)

-- the items of a trace from a place on, at most n of them
abbrev pub items_from : {T : Type 0} → Trace T → ℕ → ℕ → List T
items_from t g n = take n (drop g t.items)

-- the ending, if fewer than n items are left from that place on
abbrev pub ending_within : {T : Type 0} → Trace T → ℕ → ℕ → Option Ending
ending_within t g n = (if nat_lt (length t.items - g) n then t.ending else None)

-- how a list ends: with a refusal, if it has one
abbrev pub list_ending : Option ℕ → Ending
list_ending None = End
list_ending (Some c) = Refused c

pub list_ending-ends : (refusal : Option ℕ) → IsSourceEnding (Some (list_ending refusal))
list_ending-ends None = tt
list_ending-ends (Some c) = tt
