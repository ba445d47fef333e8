-- The first items of a source, where no more are needed.
use Rattle.std.specs.Prelude.{◌≡◌, refl, ℕ, ◌+◌, Bool, true, false, Option, [], ◌∷◌, take}
use Rattle.std.proofs.Common.{arith}
use Rattle.std.proofs.lemmas.List.{length-take}
use Rattle.plinq_source.specs.declared.ending.Ending.{Ending}
use Rattle.plinq_source.specs.declared.ending.Ending.TheVariants.{End, Refused}
use Rattle.plinq_source.specs.Trace.{Trace, ended_trace, IsSourceEnding}
use Rattle.plinq_source.specs.Walked.{IsSource}
use Rattle.plinq_steps.specs.Means.{reaches}
use Rattle.plinq_passing.specs.Ran.{ended_unless}

-- the first items of a trace: it ends well once so many are there
abbrev pub limited : {T : Type 0} → ℕ → Trace T → Trace T
limited n t = record { items = take n t.items; ending = ended_unless (reaches n t.items) t.ending }

ends-limited : (enough : Bool) (e : Option Ending) → IsSourceEnding e → IsSourceEnding (ended_unless enough e)
ends-limited true e ends = tt
ends-limited false e ends = ends

-- a source is still one if no more than so many are to come
pub limited_walked : {T : Type 0} (t : Trace T) (given left : ℕ) → IsSource t given → IsSource (limited (given + left) t) given
limited_walked t given left is =
    record {
      few = omega (arith, is.few, length-take (given + left) t.items);
      ends = ends-limited (reaches (given + left) t.items) t.ending is.ends;
      within = omega (arith, is.within, length-take (given + left) t.items);
    }

-- ---- worked rows

-- two of three end well, whatever came after them
two_of_three : limited {T = ℕ} 2 (ended_trace (4 ∷ 5 ∷ 6 ∷ []) (Refused 7)) ≡ ended_trace (4 ∷ 5 ∷ []) End
two_of_three = refl

-- of fewer the ending stays
two_of_one : limited {T = ℕ} 2 (ended_trace (4 ∷ []) (Refused 7)) ≡ ended_trace (4 ∷ []) (Refused 7)
two_of_one = refl

-- and once both were given no refusal is asked for
two_of_two : limited {T = ℕ} 2 (ended_trace (4 ∷ 5 ∷ []) (Refused 7)) ≡ ended_trace (4 ∷ 5 ∷ []) End
two_of_two = refl
