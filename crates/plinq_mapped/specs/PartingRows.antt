-- Rows of what a run that folds its answer's parts gives its taker: accumulators that stand for these.
use Rattle.std.specs.Prelude.{◌≡◌, refl, ℕ, ◌+◌, List, [], ◌∷◌, ◌++◌, Option, Some, None, Result, Ok, Err}
use Rattle.std.proofs.Common.{arith}
use Rattle.std.proofs.lemmas.List.Sums.{fold-append}
use Rattle.plinq_source.specs.declared.ending.Ending.{Ending}
use Rattle.plinq_source.specs.declared.ending.Ending.TheVariants.{End, Fault}
use Rattle.plinq_source.specs.Trace.{Trace, ended_trace}
use Rattle.plinq_aggregate.specs.Folding.{Folding}
use Rattle.plinq_merge.specs.declared.delivery_fault.DeliveryFault.{DeliveryFault}
use Rattle.plinq_merge.specs.declared.delivery_fault.DeliveryFault.TheVariants.{Memory, Sink}
use Rattle.plinq_run.specs.Parting.{Breaks, StandFor, WasGiven, GivesSome}
use Rattle.plinq_run.specs.Runs.{SinkRefused, Other}

abbrev adding : Folding ℕ ℕ ℕ
adding = record { seed = 0; update = λ a x. a + x; combine = λ a b. a + b; tell = λ a. a }

-- the sums of two parts stand for the items of both
two_parts_stand_for_all : StandFor adding (4 ∷ 2 ∷ 5 ∷ []) (6 ∷ 5 ∷ [])
two_parts_stand_for_all before = omega (arith, fold-append adding.update 0 before (4 ∷ 2 ∷ 5 ∷ []))

one_part_is_missing : StandFor adding (4 ∷ 2 ∷ 5 ∷ []) (6 ∷ []) → ⊥
one_part_is_missing stands = absurd (omega (arith, stands []))

-- a taker that keeps what it is given
abbrev keeps : ℕ → List ℕ → Trace ℕ → Result (Option Ending) DeliveryFault → ℕ → List ℕ → Type 0
keeps a x t how b y = (y ≡ x ++ t.items) × (how ≡ Ok t.ending)

abbrev four_two_five : Trace ℕ
four_two_five = ended_trace (4 ∷ 2 ∷ 5 ∷ []) End

was_given_two : WasGiven adding keeps four_two_five 0 [] (Ok (Some End)) (6 ∷ 5 ∷ [])
was_given_two = record {
  parts = ended_trace (6 ∷ 5 ∷ []) End;
  folds = record { items = two_parts_stand_for_all; ending = refl };
  last = 0;
  taken = (refl, refl);
}

was_given_another_ending : WasGiven adding keeps four_two_five 0 [] (Ok (Some (Fault 7))) (6 ∷ 5 ∷ []) → ⊥
was_given_another_ending given =
    let same = given.taken.1 in
    let ending = given.folds.ending in
    absurd (cc)

gives_two : GivesSome adding keeps (λ u. u ≡ four_two_five) 0 [] (Ok End) (6 ∷ 5 ∷ [])
gives_two = (four_two_five, refl, was_given_two)

-- why a run breaks off
by_the_sink : Breaks (Err (Sink 3)) (SinkRefused 3)
by_the_sink = refl

without_memory : Breaks (Err Memory) Other
without_memory = refl

by_a_sink_that_took_all : Breaks (Ok (Some End)) (SinkRefused 3) → ⊥
by_a_sink_that_took_all is = absurd (cc)

before_an_ending : Breaks (Ok None) Other → ⊥
before_an_ending is = absurd is
