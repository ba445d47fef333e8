-- Feeding: items sent through operators that have seen others before.
use Rattle.std.specs.Prelude.{◌≡◌, refl, ℕ, pos, negsuc, ◌<◌, ◌≤◌, List, [], ◌∷◌, ◌++◌, length, Bool, true, false, Option, Some, None, IsSome, ◌==◌}
use Rattle.plinq_source.specs.declared.ending.Ending.{Ending}
use Rattle.plinq_source.specs.declared.ending.Ending.TheVariants.{End, Refused}
use Rattle.plinq_source.specs.declared.step.Step.{Step}
use Rattle.plinq_source.specs.declared.step.Step.TheVariants.{Item, End as StepEnd, Refused as StepRefused}
use Rattle.plinq_source.specs.Trace.{Trace, open_trace, ended_trace, followed_by}
use Rattle.plinq_ops.specs.declared.op.Op.{Op}
use Rattle.plinq_ops.specs.declared.op.Op.TheVariants.{Take, Skip}
use Rattle.plinq_ops.specs.Stage.{Stage, seq, seq_after}
use Rattle.plinq_ops.specs.Operator.{item_count}
use Rattle.plinq_ops.specs.Sequential.{first_items}

-- what a source gave that was asked for its next element
abbrev pub trace_of_step : {T : Type 0} → Step T → Trace T
trace_of_step (Item x) = open_trace (x ∷ [])
trace_of_step StepEnd = ended_trace [] End
trace_of_step (StepRefused code) = ended_trace [] (Refused code)

-- the answer to a trace that was fed stands after what was out before, its ending was reported, and where there is none
-- the operators that are left go on
pub record IsFed {T : Type 0} (ss : List (Stage T)) (t : Trace T) (before after : List T) (ss' : List (Stage T)) (ending : Option Ending) : Type 0 where
  pub items : after ≡ before ++ (seq ss t).items
  pub told : ending ≡ (seq ss t).ending
  pub left : ending ≡ None → ss' ≡ seq_after ss t

-- the first n items of a trace, or, where its ending was given as well, all of it
abbrev pub seen_trace : {T : Type 0} → ℕ → Trace T → Option Ending → Trace T
seen_trace n t None = first_items n t
seen_trace n t (Some e) = t

-- a source that had given its first n items gave this piece next: the items up to place m, and its ending, if it gave that
pub record IsGiven {T : Type 0} (t : Trace T) (n : ℕ) (piece : Trace T) (m : ℕ) : Type 0 where
  pub joined : followed_by (first_items n t) piece ≡ seen_trace m t piece.ending
  pub within : m ≤ length t.items
  pub grows : piece.ending ≡ None → n < m
  pub all : IsSome piece.ending → m ≡ length t.items

-- what the source gave next was fed
pub record FeedsFrom {T : Type 0} (ss : List (Stage T)) (t : Trace T) (n m : ℕ) (before after : List T)
    (ss' : List (Stage T)) (ending : Option Ending) : Type 0 where
  pub piece : Trace T
  pub given : IsGiven t n piece m
  pub fed : IsFed ss piece before after ss' ending

-- a Take of at most 0
abbrev pub is_empty_take : {L : Type 0} → Op L → Bool
is_empty_take (Take n) = item_count n == 0
is_empty_take op = false

empty_take : is_empty_take {L = ℕ} (Take (pos 0)) ≡ true
empty_take = refl

negative_take : is_empty_take {L = ℕ} (Take (negsuc 0)) ≡ true
negative_take = refl

take_of_one : is_empty_take {L = ℕ} (Take (pos 1)) ≡ false
take_of_one = refl

-- a Skip of none passes over nothing, and takes all
empty_skip : is_empty_take {L = ℕ} (Skip (pos 0)) ≡ false
empty_skip = refl

-- of three items the second comes after the first
one_more : followed_by (first_items {T = ℕ} 1 (ended_trace (5 ∷ 6 ∷ 7 ∷ []) End)) (trace_of_step (Item 6))
    ≡ seen_trace 2 (ended_trace (5 ∷ 6 ∷ 7 ∷ []) End) None
one_more = refl

-- after all three comes the refusal, and nothing is left to see
a_refusal : followed_by (first_items {T = ℕ} 3 (ended_trace (5 ∷ 6 ∷ 7 ∷ []) (Refused 2))) (trace_of_step (StepRefused 2))
    ≡ seen_trace 3 (ended_trace (5 ∷ 6 ∷ 7 ∷ []) (Refused 2)) (Some (Refused 2))
a_refusal = refl
