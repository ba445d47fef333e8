-- What a chain answers.
use Rattle.std.specs.Prelude.{◌≡◌, ◌≢◌, refl, ℕ, ◌+◌, List, [], ◌∷◌, length, Some, ⊤, Bool, false, not, Option, is_some, Result, Ok, Err}
use Rattle.std.proofs.Common.{arith}
use Rattle.plinq_source.specs.declared.ending.Ending.{Ending}
use Rattle.plinq_source.specs.declared.ending.Ending.TheVariants.{End, Refused}
use Rattle.plinq_source.specs.Trace.{Trace, ended_trace}
use Rattle.plinq_ops.specs.declared.build_fault.BuildFault.{BuildFault}
use Rattle.plinq_ops.specs.declared.build_fault.BuildFault.TheVariants.{NotAtSource, MergeTwice, DegreeTwice, DegreeOutOfRange, Memory as NoRoom}
use Rattle.plinq_ops.specs.declared.merge_option.MergeOption.TheVariants.{AutoBuffered}
use Rattle.plinq_ops.specs.Query.{is_degree}
use Rattle.plinq_run.specs.declared.aggregate_fault.AggregateFault.{AggregateFault}
use Rattle.plinq_run.specs.declared.aggregate_fault.AggregateFault.TheVariants.{Ended as WasEnded, Run as WasRun}
use Rattle.plinq_run.specs.declared.run_fault.RunFault.{RunFault}
use Rattle.plinq_run.specs.declared.run_fault.RunFault.TheVariants.{Memory, Sink, Thread}
use Rattle.plinq_collect.specs.Calling.{CallsSome, CallsAll, NoRoomOrRefused}
use Rattle.plinq_collect.specs.Telling.{IsShort}
use Rattle.plinq_closures.specs.declared.chain_fault.ChainFault.{ChainFault}
use Rattle.plinq_closures.specs.declared.chain_fault.ChainFault.TheVariants.{Build, Ended, Run}

-- why a query by so many workers can't be built: memory ran out, or they aren't from 1 to 64
abbrev pub CantBuild : ℕ → BuildFault → Type 0
CantBuild workers NoRoom = ⊤
CantBuild workers DegreeOutOfRange = is_degree workers ≡ false
CantBuild workers NotAtSource = ⊥
CantBuild workers MergeTwice = ⊥
CantBuild workers DegreeTwice = ⊥

-- there is no answer: the query by so many workers can't be built, or memory, a thread or tickets were short
abbrev pub HasNone : ℕ → ChainFault → Type 0
HasNone workers (Build fault) = CantBuild workers fault
HasNone workers (Ended e) = ⊥
HasNone workers (Run fault) = IsShort fault

-- this is made of the items of this answer, which ended well; or how it ended, which isn't well; or why there is none
abbrev pub Tells : {T O : Type 0} → ℕ → (List T → O) → Trace T → Result O ChainFault → Type 0
Tells workers tell u (Ok out) = (out ≡ tell u.items) × (u.ending ≡ Some End)
Tells workers tell u (Err (Ended e)) = (u.ending ≡ Some e) × (e ≢ End)
Tells workers tell u (Err (Build fault)) = CantBuild workers fault
Tells workers tell u (Err (Run fault)) = IsShort fault

-- where a run has no answer, memory ran out
abbrev pub LacksRoomAlone : {O : Type 0} → Result O ChainFault → Type 0
LacksRoomAlone (Ok out) = ⊤
LacksRoomAlone (Err (Build fault)) = ⊤
LacksRoomAlone (Err (Ended e)) = ⊤
LacksRoomAlone (Err (Run fault)) = fault ≡ Memory

-- the same, or the closure answered a code
abbrev pub LacksRoomOrRefused : Result Ending ChainFault → Type 0
LacksRoomOrRefused (Ok e) = ⊤
LacksRoomOrRefused (Err (Build fault)) = ⊤
LacksRoomOrRefused (Err (Ended e)) = ⊤
LacksRoomOrRefused (Err (Run fault)) = NoRoomOrRefused (Err fault)

-- the answer of a query, as that of its chain
abbrev pub chain_answer : {O : Type 0} → Result O AggregateFault → Result O ChainFault
chain_answer (Ok out) = Ok out
chain_answer (Err (WasEnded e)) = Err (Ended e)
chain_answer (Err (WasRun fault)) = Err (Run fault)

-- whether there is an item, where that is what was asked
abbrev pub is_there : {T : Type 0} → Result (Option T) ChainFault → Result Bool ChainFault
is_there (Ok first) = Ok (is_some first)
is_there (Err fault) = Err fault

-- the other answer, where there is one
abbrev pub negated : Result Bool ChainFault → Result Bool ChainFault
negated (Ok is) = Ok (not is)
negated (Err fault) = Err fault

-- what a run comes to, as what its chain does
abbrev pub chain_outcome : {O : Type 0} → Result O RunFault → Result O ChainFault
chain_outcome (Ok out) = Ok out
chain_outcome (Err fault) = Err (Run fault)

module _ {F T : Type 0} (workers : ℕ) (Step : F → T → Result ⊤ ℕ → F → Type 0) (u : Trace T) (f : F) where
  -- a closure was called with the items of this answer's batches, or with the first of them; where the query can't be built, it
  -- wasn't called
  abbrev pub WasCalled : Result Ending ChainFault → F → Type 0
  WasCalled (Ok e) g = CallsSome Step AutoBuffered (λ v. v ≡ u) f (Ok e) g
  WasCalled (Err (Build fault)) g = CantBuild workers fault × (g ≡ f)
  WasCalled (Err (Ended e)) g = ⊥
  WasCalled (Err (Run fault)) g = CallsSome Step AutoBuffered (λ v. v ≡ u) f (Err fault) g

  pub record HasCalled (outcome : Result Ending ChainFault) (g : F) : Type 0 where
    pub calls : WasCalled outcome g

  -- the same of the answer's items
  abbrev pub WasCalledAll : Result Ending ChainFault → F → Type 0
  WasCalledAll (Ok e) g = CallsAll Step u f (Ok e) g
  WasCalledAll (Err (Build fault)) g = CantBuild workers fault × (g ≡ f)
  WasCalledAll (Err (Ended e)) g = ⊥
  WasCalledAll (Err (Run fault)) g = CallsAll Step u f (Err fault) g

  pub record HasCalledAll (outcome : Result Ending ChainFault) (g : F) : Type 0 where
    pub calls : WasCalledAll outcome g

-- ---- worked rows: why a run on one thread has no answer

no_room : LacksRoomAlone {O = ℕ} (Err (Run Memory))
no_room = refl

a_code : LacksRoomOrRefused (Err (Run (Sink 7)))
a_code = tt

-- 64 workers are no reason, 65 are one
too_few : CantBuild 64 DegreeOutOfRange → ⊥
too_few is = absurd (let bad : ◌≡◌ {A = Bool} (is_degree 64) false = is in cc)

too_many : CantBuild 65 DegreeOutOfRange
too_many = refl

-- a missing thread is no reason, whatever is asked
no_thread : LacksRoomAlone {O = ℕ} (Err (Run Thread)) → ⊥
no_thread is = absurd cc

no_thread_for_a_closure : LacksRoomOrRefused (Err (Run Thread)) → ⊥
no_thread_for_a_closure is = is

-- ---- what is made of the items of an answer

abbrev one_item : Ending → Trace ℕ
one_item ending = ended_trace (7 ∷ []) ending

abbrev count_of : List ℕ → ℕ
count_of xs = length xs

one_is_counted : Tells 4 count_of (one_item End) (Ok 1)
one_is_counted = (refl, refl)

-- one item isn't two
another_count : Tells 4 count_of (one_item End) (Ok 2) → ⊥
another_count told = let bad : 2 ≡ 1 = told.0 in omega (arith, bad)

-- nothing is made of an answer that ended otherwise
a_refusal_has_no_count : Tells 4 count_of (one_item (Refused 7)) (Ok 1) → ⊥
a_refusal_has_no_count told = absurd (let bad : ◌≡◌ {A = Option Ending} (Some (Refused 7)) (Some End) = told.1 in cc)

-- and one that ended well has something
an_end_is_no_fault : Tells 4 count_of (one_item End) (Err (Ended End)) → ⊥
an_end_is_no_fault told = told.1 refl

-- nor is another ending reported
another_ending : Tells 4 count_of (one_item (Refused 7)) (Err (Ended (Refused 8))) → ⊥
another_ending told = absurd (let bad : ◌≡◌ {A = Option Ending} (Some (Refused 7)) (Some (Refused 8)) = told.0 in cc)

-- a closure isn't called if its query can't be built, here by 65 workers
not_called : WasCalled 65 (λ f x r g. g ≡ f + 1) (one_item End) 0 (Err (Build DegreeOutOfRange)) 0
not_called = (refl, refl)

called_all_the_same : WasCalled 65 (λ f x r g. g ≡ f + 1) (one_item End) 0 (Err (Build DegreeOutOfRange)) 1 → ⊥
called_all_the_same is = let bad : 1 ≡ 0 = is.1 in omega (arith, bad)
