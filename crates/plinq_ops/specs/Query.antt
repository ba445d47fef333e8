-- A query: its operators in order, and its settings.
use Rattle.std.specs.Prelude.{◌≡◌, refl, ℕ, pos, List, [], ◌∷◌, ◌++◌, Bool, true, false}
use Rattle.std.specs.Prelude.{Option, Some, None, ◌&&◌, not, is_some, nat_lt, if◌then◌else◌, Result, Ok, Err, MatchResult}
use Rattle.plinq_ops.specs.declared.op.Op.{Op}
use Rattle.plinq_ops.specs.declared.op.Op.TheVariants.{Take}
use Rattle.plinq_ops.specs.declared.merge_option.MergeOption.{MergeOption}
use Rattle.plinq_ops.specs.declared.merge_option.MergeOption.TheVariants.{Default, NotBuffered, AutoBuffered, FullyBuffered}
use Rattle.plinq_ops.specs.declared.build_fault.BuildFault.{BuildFault}
use Rattle.plinq_ops.specs.declared.build_fault.BuildFault.TheVariants.{NotAtSource, MergeTwice, DegreeTwice, DegreeOutOfRange, Memory}

-- the operators, whether `as_ordered` was called, and the merge option and the degree if they were given
pub record QueryView (L : Type 0) : Type 0 where
  pub ops : List (Op L)
  pub ordered : Bool
  pub merge : Option MergeOption
  pub degree : Option ℕ

-- what a builder call answers: the query with the call in it, or the query unchanged with the fault
abbrev pub Built : Type 0 → Type 0
Built L = Result (QueryView L) (QueryView L × BuildFault)

abbrev pub empty_query : {L : Type 0} → QueryView L
empty_query = record { ops = []; ordered = false; merge = None; degree = None }

-- whether a list has no items
abbrev pub is_nil : {A : Type 0} → List A → Bool
is_nil [] = true
is_nil (x ∷ xs) = false

-- no operator stands before, and `as_ordered` neither
abbrev pub is_at_source : {L : Type 0} → QueryView L → Bool
is_at_source q = not q.ordered && is_nil q.ops

-- `as_ordered`: directly at the source, once
abbrev pub with_order : {L : Type 0} → QueryView L → Built L
with_order q = if is_at_source q then Ok (record q { ordered = true }) else Err (q, NotAtSource)

-- `with_merge`: once
abbrev pub with_option : {L : Type 0} → QueryView L → MergeOption → Built L
with_option q option = if is_some q.merge then Err (q, MergeTwice) else Ok (record q { merge = Some option })

-- a degree of parallelism is a number from 1 to 64
abbrev pub is_degree : ℕ → Bool
is_degree n = nat_lt 0 n && nat_lt n 65

-- `with_degree`: once, from 1 to 64
abbrev pub with_degree_of : {L : Type 0} → QueryView L → ℕ → Built L
with_degree_of q n =
    if is_some q.degree then Err (q, DegreeTwice) else (if is_degree n then Ok (record q { degree = Some n }) else Err (q, DegreeOutOfRange))

-- the operator stands after the others, or memory ran out and nothing has changed
abbrev pub AddsOp : {L : Type 0} → QueryView L → Op L → Built L → Type 0
AddsOp q op r =
    MatchResult r (λ new. new ≡ record q { ops = q.ops ++ op ∷ [] }) (λ refused. (refused.0 ≡ q) × (refused.1 ≡ Memory))

-- the merge option in force: AutoBuffered where none or Default was given
abbrev pub merge_in_force : Option MergeOption → MergeOption
merge_in_force None = AutoBuffered
merge_in_force (Some Default) = AutoBuffered
merge_in_force (Some NotBuffered) = NotBuffered
merge_in_force (Some AutoBuffered) = AutoBuffered
merge_in_force (Some FullyBuffered) = FullyBuffered

-- the degree of parallelism in force: 4 where none was given
abbrev pub degree_in_force : Option ℕ → ℕ
degree_in_force None = 4
degree_in_force (Some n) = n

-- rows: the builder's calls on an empty query, and on one that has an operator

abbrev one_taken : QueryView ℕ
one_taken = record empty_query { ops = Take (pos 1) ∷ [] }

order_at_the_source : with_order {L = ℕ} empty_query ≡ Ok (record empty_query { ordered = true })
order_at_the_source = refl

order_after_an_operator : with_order one_taken ≡ Err (one_taken, NotAtSource)
order_after_an_operator = refl

order_twice : with_order {L = ℕ} (record empty_query { ordered = true }) ≡ Err (record empty_query { ordered = true }, NotAtSource)
order_twice = refl

option_after_an_operator : with_option one_taken NotBuffered ≡ Ok (record one_taken { merge = Some NotBuffered })
option_after_an_operator = refl

-- the default, where it was given, is an option that was given
option_twice : with_option (record one_taken { merge = Some Default }) NotBuffered ≡ Err (record one_taken { merge = Some Default }, MergeTwice)
option_twice = refl

degree_of_none : with_degree_of one_taken 0 ≡ Err (one_taken, DegreeOutOfRange)
degree_of_none = refl

degree_of_one : with_degree_of one_taken 1 ≡ Ok (record one_taken { degree = Some 1 })
degree_of_one = refl

degree_of_64 : with_degree_of one_taken 64 ≡ Ok (record one_taken { degree = Some 64 })
degree_of_64 = refl

degree_of_65 : with_degree_of one_taken 65 ≡ Err (one_taken, DegreeOutOfRange)
degree_of_65 = refl

-- that it was given before is reported first
degree_twice : with_degree_of (record one_taken { degree = Some 4 }) 0 ≡ Err (record one_taken { degree = Some 4 }, DegreeTwice)
degree_twice = refl

degree_by_default : degree_in_force None ≡ 4
degree_by_default = refl

option_by_default : merge_in_force None ≡ AutoBuffered
option_by_default = refl

default_option : merge_in_force (Some Default) ≡ AutoBuffered
default_option = refl
