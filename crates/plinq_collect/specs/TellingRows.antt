-- Rows of what is told of a query's answer.
use Rattle.std.specs.Prelude.{◌≡◌, refl, ℕ, List, [], ◌∷◌, length, Some, true, false, Ok, Err}
use Rattle.std.proofs.Common.{sym, ◌∙◌, ap, arith}
use Rattle.plinq_source.specs.declared.ending.Ending.TheVariants.{End, Refused, Fault}
use Rattle.plinq_source.specs.Trace.{Trace, ended_trace}
use Rattle.plinq_ops.specs.declared.merge_option.MergeOption.TheVariants.{AutoBuffered, FullyBuffered}
use Rattle.plinq_run.specs.declared.aggregate_fault.AggregateFault.TheVariants.{Ended, Run}
use Rattle.plinq_run.specs.declared.run_fault.RunFault.TheVariants.{Memory, Sink, Thread, Cancelled}
use Rattle.plinq_run.specs.Runs.{Cause, SinkRefused, Stopped, Other}
use Rattle.plinq_collect.specs.Telling.{items_of, IsGathered, TellsSome, LacksRoom, negated, gathered_of}

abbrev two : Trace ℕ
two = ended_trace (4 ∷ 2 ∷ []) End

-- one item, and then a fault
abbrev faulted : Trace ℕ
faulted = ended_trace (4 ∷ []) (Fault 1)

items_of_two_batches : items_of {T = ℕ} ((4 ∷ 2 ∷ []) ∷ (5 ∷ []) ∷ []) ≡ 4 ∷ 2 ∷ 5 ∷ []
items_of_two_batches = refl

-- ---- a list

both_are_gathered : IsGathered AutoBuffered two (4 ∷ 2 ∷ []) End
both_are_gathered = record { items = refl; all = λ is. refl; ending = refl }

one_is_lost : IsGathered AutoBuffered two (4 ∷ []) End → ⊥
one_is_lost it = let bad : 1 ≡ 2 = ap length (it.all refl) in absurd (omega (arith, bad))

ends_otherwise : IsGathered AutoBuffered two (4 ∷ 2 ∷ []) (Refused 7) → ⊥
ends_otherwise it = let is = it.ending in absurd (cc)

kept_back_before_a_fault : IsGathered FullyBuffered faulted (4 ∷ []) (Fault 1) → ⊥
kept_back_before_a_fault it = let bad : 1 ≡ 0 = ap length it.items in absurd (omega (arith, bad))

-- a list refuses a batch if memory runs out, and for nothing else
a_refusal_is_told_as_memory : gathered_of {V = List ℕ} (4 ∷ []) (Err (Sink 1)) ≡ Err Memory
a_refusal_is_told_as_memory = refl

-- ---- what a function makes of an answer

two_are_counted : TellsSome length (λ u. u ≡ two) (Ok 2)
two_are_counted = (two, refl, refl, refl)

three_are_counted : TellsSome length (λ u. u ≡ two) (Ok 3) → ⊥
three_are_counted tells = let bad : 3 ≡ 2 = tells.2 ∙ ap (λ u. length u.items) tells.1 in absurd (omega (arith, bad))

told_of_an_answer_that_faulted : TellsSome length (λ u. u ≡ faulted) (Ok 1) → ⊥
told_of_an_answer_that_faulted tells = let bad : Some (Fault 1) ≡ Some End = sym (ap (λ u. u.ending) tells.1) ∙ tells.3 in absurd (cc)

another_fault_is_told : TellsSome length (λ u. u ≡ faulted) (Err (Ended (Fault 2))) → ⊥
another_fault_is_told tells = let bad : Some (Fault 1) ≡ Some (Fault 2) = sym (ap (λ u. u.ending) tells.1) ∙ tells.2 in absurd (cc)

the_end_is_told_as_a_fault : TellsSome length (λ u. u ≡ two) (Err (Ended End)) → ⊥
the_end_is_told_as_a_fault tells = tells.3 refl

nobody_cancelled : TellsSome length (λ u. u ≡ two) (Err (Run Cancelled)) → ⊥
nobody_cancelled tells = let bad : Stopped ≡ Other = tells in cc

no_sink_refused : TellsSome length (λ u. u ≡ two) (Err (Run (Sink 3))) → ⊥
no_sink_refused tells = let bad : SinkRefused 3 ≡ Other = tells in cc

-- one thread lacks room and nothing else
lacks_a_thread : LacksRoom {O = ℕ} (Err (Run Thread)) → ⊥
lacks_a_thread is = absurd cc

not_any_is_none : negated (Ok true) ≡ Ok false
not_any_is_none = refl
