-- Items in the order of their ranks.
use Rattle.std.specs.Prelude.{◌≡◌, ◌≢◌, ⊤, ℕ, List, [], ◌∷◌, length, get_or, Some, IsSortedByKey}
use Rattle.std.specs.Ordering.{nat_cmp}
use Rattle.std.proofs.Common.{arith, ap}
use Rattle.std.specs.List.Sorted.{IsStableByKey}
use Rattle.std.specs.declared.cmp.Ordering.{Ordering}
use Rattle.plinq_source.specs.declared.ending.Ending.TheVariants.{End}
use Rattle.plinq_source.specs.Trace.{Trace}
use Rattle.plinq_run.specs.declared.aggregate_fault.AggregateFault.{AggregateFault}
use Rattle.plinq_run.specs.declared.aggregate_fault.AggregateFault.TheVariants.{Ended, Run}
use Rattle.plinq_collect.specs.Telling.{IsShort}

-- a list is another one in ascending order of rank: no rank is less than the one before it, and items of equal ranks are those of
-- the other list in their order
pub record IsOrderOf {T K : Type 0} (rank : T → K) (cmp : K → K → Ordering) (xs ys : List T) : Type 0 where
  pub ascends : IsSortedByKey rank cmp ys
  pub stable : IsStableByKey rank cmp xs ys

-- these are the items of some answer in order, which ended well
abbrev pub OrdersSome : {T K : Type 0} → (T → K) → (K → K → Ordering) → (Trace T → Type 0) → List T → Type 0
OrdersSome {T} rank cmp IsAnswer ys = (u : Trace T) × (IsAnswer u) × (IsOrderOf rank cmp u.items ys) × (u.ending ≡ Some End)

-- some answer ended so, which isn't well; or there is none, since memory, a thread or tickets were short
abbrev pub EndsOtherwise : {T : Type 0} → (Trace T → Type 0) → AggregateFault → Type 0
EndsOtherwise {T} IsAnswer (Ended e) = (u : Trace T) × (IsAnswer u) × (u.ending ≡ Some e) × (e ≢ End)
EndsOtherwise IsAnswer (Run fault) = IsShort fault

-- ---- worked rows

-- pairs by their first numbers
abbrev firsts : ℕ × ℕ → ℕ
firsts p = p.0

abbrev came : List (ℕ × ℕ)
came = (2, 1) ∷ (1, 2) ∷ (2, 3) ∷ []

-- what ties stands as it came
exchanged : IsOrderOf firsts nat_cmp came ((1, 2) ∷ (2, 3) ∷ (2, 1) ∷ []) → ⊥
exchanged order = let same = ap (λ l. get_or l 0 (0, 0)) (order.stable (2, 0)) in absurd (omega (arith, ap (λ (p : ℕ × ℕ). p.1) same))

-- none is lost
one_is_lost : IsOrderOf firsts nat_cmp came ((1, 2) ∷ (2, 1) ∷ []) → ⊥
one_is_lost order = absurd (omega (arith, ap length (order.stable (2, 0))))

-- the greater comes later
descending : IsOrderOf firsts nat_cmp came ((2, 1) ∷ (2, 3) ∷ (1, 2) ∷ []) → ⊥
descending order = let less = order.ascends 1 (0, 0) (omega arith) (omega arith) in absurd (cc)
