-- What a closure is called with: the items of an answer, one after another.
use Rattle.std.specs.Prelude.{◌≡◌, ◌≤◌, refl, ⊤, ℕ, nat_le, if◌then◌else◌, List, [], ◌∷◌, ◌++◌, length, get_or, Option, Some, Result, Ok, Err}
use Rattle.std.proofs.Common.{arith, ap, sym, subst, ◌∙◌, length-append}
use mathlib.Core.Equiv.{IsContr, IsContr-prop}
use Rattle.plinq_source.specs.declared.ending.Ending.{Ending}
use Rattle.plinq_source.specs.declared.ending.Ending.TheVariants.{End}
use Rattle.plinq_source.specs.Trace.{Trace, ended_trace}
use Rattle.plinq_merge.specs.Sending.{Leads, TakesBeginning, RefusesNext}
use Rattle.plinq_ops.specs.declared.merge_option.MergeOption.{MergeOption}
use Rattle.plinq_ops.specs.declared.merge_option.MergeOption.TheVariants.{NotBuffered}
use Rattle.plinq_ops.specs.Batches.{batches}
use Rattle.plinq_run.specs.declared.run_fault.RunFault.{RunFault}
use Rattle.plinq_run.specs.declared.run_fault.RunFault.TheVariants.{Memory, Sink, Tickets, Thread, Incomplete, Cancelled}
use Rattle.plinq_run.specs.Runs.{Cause, SinkRefused, Stopped, Other, cause_of}
use Rattle.plinq_collect.specs.Telling.{items_of}

-- it may be called, and in one way
abbrev pub MayCall : Type 0 → Type 0
MayCall P = IsContr P

pub MayCall-prop : (P : Type 0) → IsProp (MayCall P)
MayCall-prop P = IsContr-prop

module _ {F T : Type 0} (Step : F → T → Result ⊤ ℕ → F → Type 0) where
  -- a call that answers well
  abbrev pub Takes : F → T → F → Type 0
  Takes f x g = Step f x (Ok tt) g

  -- a call that answers this code
  abbrev pub Refuses : F → T → ℕ → F → Type 0
  Refuses f x code g = Step f x (Err code) g

  -- it was called with the first of these items: up to the one at which it answered a code, or for whatever other cause with
  -- no more of them
  abbrev pub CallsFirst : Cause → List T → F → F → Type 0
  CallsFirst (SinkRefused code) xs f g = RefusesNext Takes Refuses f xs code g
  CallsFirst Stopped xs f g = ⊥
  CallsFirst Other xs f g = TakesBeginning Takes f xs g

  -- it was called with all of these items, one after another, of an answer that ended so; or with the first of them
  abbrev pub Calls : List T → Option Ending → F → Result Ending RunFault → F → Type 0
  Calls xs ending f (Ok e) g = (Leads Takes f xs g) × (ending ≡ Some e)
  Calls xs ending f (Err fault) g = CallsFirst (cause_of fault) xs f g

  -- it was called with the items of the batches of some answer, which are all of its items where it ends well
  pub record CallsSome (option : MergeOption) (IsAnswer : Trace T → Type 0) (f : F) (outcome : Result Ending RunFault) (g : F) : Type 0 where
    pub answer : Trace T
    pub may : IsAnswer answer
    pub calls : Calls (items_of (batches option answer)) answer.ending f outcome g
    pub all : answer.ending ≡ Some End → items_of (batches option answer) ≡ answer.items

  -- it was called with the items of this answer
  pub record CallsAll (u : Trace T) (f : F) (outcome : Result Ending RunFault) (g : F) : Type 0 where
    pub calls : Calls u.items u.ending f outcome g

-- where it was not called with all items, memory ran out, or it answered a code
abbrev pub NoRoomOrRefused : Result Ending RunFault → Type 0
NoRoomOrRefused (Ok e) = ⊤
NoRoomOrRefused (Err Memory) = ⊤
NoRoomOrRefused (Err (Sink code)) = ⊤
NoRoomOrRefused (Err Tickets) = ⊥
NoRoomOrRefused (Err Thread) = ⊥
NoRoomOrRefused (Err Incomplete) = ⊥
NoRoomOrRefused (Err Cancelled) = ⊥

-- it answered a code
abbrev pub IsCode : RunFault → Type 0
IsCode (Sink code) = ⊤
IsCode Memory = ⊥
IsCode Tickets = ⊥
IsCode Thread = ⊥
IsCode Incomplete = ⊥
IsCode Cancelled = ⊥

-- ---- worked rows: a closure that keeps what it is called with, and answers 7 to what is above 4

abbrev answer_to : ℕ → Result ⊤ ℕ
answer_to x = if nat_le x 4 then Ok tt else Err 7

abbrev keeps : List ℕ → ℕ → Result ⊤ ℕ → List ℕ → Type 0
keeps f x r g = (g ≡ f ++ x ∷ []) × (r ≡ answer_to x)

abbrev four_two : Trace ℕ
four_two = ended_trace (4 ∷ 2 ∷ []) End

abbrev four_five_two : Trace ℕ
four_five_two = ended_trace (4 ∷ 5 ∷ 2 ∷ []) End

with_all : CallsAll keeps four_two [] (Ok End) (4 ∷ 2 ∷ [])
with_all = record { calls = ((4 ∷ [], (refl, refl), (4 ∷ 2 ∷ [], (refl, refl), refl)), refl) }

up_to_the_code : CallsAll keeps four_five_two [] (Err (Sink 7)) (4 ∷ 5 ∷ [])
up_to_the_code = record { calls = ((4 ∷ []), 5, (2 ∷ []), (4 ∷ []), refl, (4 ∷ [], (refl, refl), refl), (refl, refl)) }

no_memory_after_the_first : CallsAll keeps four_five_two [] (Err Memory) (4 ∷ [])
no_memory_after_the_first = record { calls = ((4 ∷ []), (5 ∷ 2 ∷ []), refl, (4 ∷ [], (refl, refl), refl)) }

some_of_batches : CallsSome keeps NotBuffered (λ u. u ≡ four_five_two) [] (Err (Sink 7)) (4 ∷ 5 ∷ [])
some_of_batches = record { answer = four_five_two; may = refl; calls = up_to_the_code.calls; all = λ well. refl }

-- no call before the code answers it, so there is at most one
before_the_code : (sent rest : List ℕ) → 4 ∷ 5 ∷ 2 ∷ [] ≡ sent ++ rest → (g : List ℕ) → Leads (Takes keeps) [] sent g → length g ≤ 1
before_the_code [] rest parts g is = omega (arith, ap length is)
before_the_code (a ∷ []) rest parts g (m, (is, ok), same) = omega (arith, ap length same, ap length is)
before_the_code (a ∷ b ∷ cs) rest parts g (m, one, (n, (is, ok), leads)) =
    let five : 5 ≡ b = ap (λ xs. get_or xs 1 0) parts in
    let bad : ◌≡◌ {A = Result ⊤ ℕ} (Ok tt) (Err 7) = subst (λ x. Ok tt ≡ answer_to x) (sym five) ok in
    absurd cc

-- a code isn't reported as out of memory
code_as_memory : CallsAll keeps four_five_two [] (Err Memory) (4 ∷ 5 ∷ []) → ⊥
code_as_memory it = let c = it.calls in omega (arith, before_the_code c.0 c.1 c.2 (4 ∷ 5 ∷ []) c.3)

-- nor is there a call more after it
called_after_the_code : CallsAll keeps four_five_two [] (Err (Sink 7)) (4 ∷ 5 ∷ 2 ∷ []) → ⊥
called_after_the_code it =
    let c = it.calls in omega (arith, before_the_code c.0 (c.1 ∷ c.2) c.4 c.3 c.5, ap length c.6.0 ∙ length-append c.3 (c.1 ∷ []))

-- and where all is well, no item was left out
first_left_out : CallsAll keeps four_two [] (Ok End) (2 ∷ []) → ⊥
first_left_out it =
    let c = it.calls.0 in omega (arith, ap length c.1.0, ap length c.2.1.0 ∙ length-append c.0 (2 ∷ []), ap length c.2.2)

-- a missing thread is no reason on one thread
no_thread_of_one : NoRoomOrRefused (Err Thread) → ⊥
no_thread_of_one it = absurd it
