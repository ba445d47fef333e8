-- An answer with what is made of each item in its place, or without it.
use Rattle.std.specs.Prelude.{◌≡◌, refl, ℕ, ◌+◌, ◌==◌, if◌then◌else◌, List, [], ◌∷◌, ◌++◌, length, Option, Some, None, Result, Ok, Err}
use Rattle.std.proofs.Common.{arith, ap, ◌∙◌}
use Rattle.plinq_source.specs.declared.ending.Ending.{Ending}
use Rattle.plinq_source.specs.declared.ending.Ending.TheVariants.{End, Refused, Fault}
use Rattle.plinq_source.specs.Trace.{Trace, ended_trace}
use Rattle.plinq_groups.specs.Mapping.{mapped_items}
use Rattle.plinq_ops.specs.declared.merge_option.MergeOption.{MergeOption}
use Rattle.plinq_ops.specs.declared.merge_option.MergeOption.TheVariants.{NotBuffered}
use Rattle.plinq_run.specs.declared.run_fault.RunFault.{RunFault}
use Rattle.plinq_run.specs.Runs.{Runs}

-- what was made, and then the fault of the item after it of which nothing can be made; else this ending
abbrev pub trace_at : {B : Type 0} → List B → Option ℕ → Option Ending → Trace B
trace_at ys None e = record { items = ys; ending = e }
trace_at ys (Some code) e = ended_trace ys (Fault code)

-- What is made of an answer's items, up to the first that faults: its code is the fault that ends the answer. Where none
-- faults, the answer ends as before.
abbrev pub made_of : {T B : Type 0} → (T → Result (Option B) ℕ) → Trace T → Trace B
made_of makes u = trace_at (mapped_items makes u.items).0 (mapped_items makes u.items).1 u.ending

-- what a mapped run delivers: what is made of one of these answers
abbrev pub RunsMadeOf : {K T B : Type 0} → (K → List B → K → Type 0) → (K → List B → ℕ → K → Type 0) → MergeOption
    → (T → Result (Option B) ℕ) → (Trace T → Type 0) → K → K → Result Ending RunFault → Type 0
RunsMadeOf {K} {T} accepts refuses option makes IsAnswer s s' r = (u : Trace T) × (IsAnswer u) × Runs accepts refuses option (made_of makes u) s s' r

-- a list has all that is made of this answer, which ends so
abbrev pub IsMadeOf : {T B : Type 0} → (T → Result (Option B) ℕ) → Trace T → List B → Ending → Type 0
IsMadeOf makes u ys e = ended_trace ys e ≡ made_of makes u

-- the same, of one of these answers
abbrev pub IsMadeOfSome : {T B : Type 0} → (T → Result (Option B) ℕ) → (Trace T → Type 0) → List B → Ending → Type 0
IsMadeOfSome {T} makes IsAnswer ys e = (u : Trace T) × (IsAnswer u) × IsMadeOf makes u ys e

-- ---- worked rows

-- one more than each, without 4, and of all but 3
abbrev one_more : ℕ → Result (Option ℕ) ℕ
one_more n = if n == 3 then Err 7 else (if n == 4 then Ok None else Ok (Some (n + 1)))

all_are_made : made_of one_more (ended_trace (5 ∷ 1 ∷ []) (Refused 9)) ≡ ended_trace (6 ∷ 2 ∷ []) (Refused 9)
all_are_made = refl

one_is_left_out : made_of one_more (ended_trace (5 ∷ 4 ∷ 1 ∷ []) End) ≡ ended_trace (6 ∷ 2 ∷ []) End
one_is_left_out = refl

made_up_to_a_fault : made_of one_more (ended_trace (5 ∷ 3 ∷ 1 ∷ 3 ∷ []) End) ≡ ended_trace (6 ∷ []) (Fault 7)
made_up_to_a_fault = refl

-- a sink that keeps the items of its batches, and refuses none
abbrev keeps_items : List ℕ → List ℕ → List ℕ → Type 0
keeps_items s b s' = s' ≡ s ++ b

abbrev never : List ℕ → List ℕ → ℕ → List ℕ → Type 0
never s b code s' = ⊥

-- of 3 nothing is made
abbrev Delivers : List ℕ → Ending → Type 0
Delivers s' e = Runs keeps_items never NotBuffered (made_of one_more (ended_trace (5 ∷ 3 ∷ 1 ∷ []) End)) [] s' (Ok e)

what_is_made_before : Delivers (6 ∷ []) (Fault 7)
what_is_made_before = record { delivered = (6 ∷ [], refl, refl); ending = refl }

what_is_made_after : Delivers (6 ∷ 2 ∷ []) (Fault 7) → ⊥
what_is_made_after run = let (first, is, last) = run.delivered in absurd (omega (arith, ap length (last ∙ is)))

as_if_well : Delivers (6 ∷ []) End → ⊥
as_if_well run = let same = run.ending in absurd (cc)

a_list_of_all : IsMadeOf one_more (ended_trace (5 ∷ 1 ∷ []) End) (6 ∷ 2 ∷ []) End
a_list_of_all = refl

a_list_past_the_fault : IsMadeOf one_more (ended_trace (5 ∷ 3 ∷ 1 ∷ []) End) (6 ∷ 2 ∷ []) (Fault 7) → ⊥
a_list_past_the_fault is = absurd (omega (arith, ap (λ (t : Trace ℕ). length t.items) is))

a_list_as_if_well : IsMadeOf one_more (ended_trace (5 ∷ 3 ∷ []) End) (6 ∷ []) End → ⊥
a_list_as_if_well is = let same = ap (λ (t : Trace ℕ). t.ending) is in absurd (cc)
