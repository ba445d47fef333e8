-- A plan: which operators a worker applies to its own elements, and which come after the merge.
use Rattle.std.specs.Prelude.{◌≡◌, refl, ℕ, pos, List, [], ◌∷◌, Bool, true, false, if◌then◌else◌}
use Rattle.std.specs.List.{list_any}
use Rattle.plinq_ops.specs.declared.op.Op.{Op}
use Rattle.plinq_ops.specs.declared.op.Op.TheVariants.{Select, Filter, SelectMany, Take, Skip, TakeWhile, SkipWhile, AsUnordered}
use Rattle.plinq_ops.specs.declared.order.Order.{Order}
use Rattle.plinq_ops.specs.declared.order.Order.TheVariants.{ByKey, ByArrival}
use Rattle.plinq_ops.specs.declared.known.Known.{Known}
use Rattle.plinq_ops.specs.declared.known.Known.TheVariants.{Nothing, Position}
use Rattle.plinq_ops.specs.declared.plan.Plan.{Plan}
use Rattle.plinq_ops.specs.Query.{QueryView}
use Rattle.plinq_ops.specs.Feeding.{is_empty_take}
use Rattle.plinq_ops.specs.ByKey.{can_apply, known_after}

-- an ordered query is merged by key, any other by arrival
abbrev pub order_of : Bool → Order
order_of true = ByKey
order_of false = ByArrival

-- what a worker may use of the source's elements: their keys, which are their positions, where the order is kept
abbrev pub known_at_source : Order → Known
known_at_source ByKey = Position
known_at_source ByArrival = Nothing

-- the longest prefix that a worker can apply
abbrev pub worker_from : {L : Type 0} → Known → List (Op L) → List (Op L)
worker_from known [] = []
worker_from known (op ∷ ops) = if can_apply known op then op ∷ worker_from (known_after known op) ops else []

-- the rest
abbrev pub after_from : {L : Type 0} → Known → List (Op L) → List (Op L)
after_from known [] = []
after_from known (op ∷ ops) = if can_apply known op then after_from (known_after known op) ops else op ∷ ops

-- the operators that the workers apply
abbrev pub worker_part : {L : Type 0} → Order → List (Op L) → List (Op L)
worker_part order ops = worker_from (known_at_source order) ops

-- the operators that are applied to the merged results
abbrev pub after_part : {L : Type 0} → Order → List (Op L) → List (Op L)
after_part order ops = after_from (known_at_source order) ops

-- select, take 5, filter, take 2: by key the workers take the first five elements; how many pass isn't known from a key
abbrev example_ops : List (Op ℕ)
example_ops = Select 0 ∷ Take (pos 5) ∷ Filter 1 ∷ Take (pos 2) ∷ []

worker_by_key : worker_part ByKey example_ops ≡ Select 0 ∷ Take (pos 5) ∷ Filter 1 ∷ []
worker_by_key = refl

after_by_key : after_part ByKey example_ops ≡ Take (pos 2) ∷ []
after_by_key = refl

worker_by_arrival : worker_part ByArrival example_ops ≡ Select 0 ∷ []
worker_by_arrival = refl

after_by_arrival : after_part ByArrival example_ops ≡ Take (pos 5) ∷ Filter 1 ∷ Take (pos 2) ∷ []
after_by_arrival = refl

-- TakeWhile stops at the first that fails, which by arrival is any
take_while_by_arrival : worker_part {L = ℕ} ByArrival (Filter 0 ∷ TakeWhile 1 ∷ []) ≡ Filter 0 ∷ []
take_while_by_arrival = refl

take_while_by_key : worker_part {L = ℕ} ByKey (Filter 0 ∷ TakeWhile 1 ∷ []) ≡ Filter 0 ∷ TakeWhile 1 ∷ []
take_while_by_key = refl

-- an expansion goes to the workers in both orders; after it the order is known, and no position
select_many_by_key : worker_part {L = ℕ} ByKey (SelectMany 0 ∷ TakeWhile 1 ∷ Take (pos 2) ∷ []) ≡ SelectMany 0 ∷ TakeWhile 1 ∷ []
select_many_by_key = refl

select_many_by_arrival : worker_part {L = ℕ} ByArrival (Select 0 ∷ SelectMany 1 ∷ Take (pos 2) ∷ []) ≡ Select 0 ∷ SelectMany 1 ∷ []
select_many_by_arrival = refl

-- SkipWhile comes after the merge in both orders, and so does all after it
skip_while_by_key : worker_part {L = ℕ} ByKey (Select 0 ∷ SkipWhile 1 ∷ Select 0 ∷ []) ≡ Select 0 ∷ []
skip_while_by_key = refl

after_skip_while_by_key : after_part {L = ℕ} ByKey (Select 0 ∷ SkipWhile 1 ∷ Take (pos 2) ∷ []) ≡ SkipWhile 1 ∷ Take (pos 2) ∷ []
after_skip_while_by_key = refl

skip_while_by_arrival : after_part {L = ℕ} ByArrival (Select 0 ∷ SkipWhile 1 ∷ Select 0 ∷ []) ≡ SkipWhile 1 ∷ Select 0 ∷ []
skip_while_by_arrival = refl

-- no operator goes past an AsUnordered
before_as_unordered : worker_part {L = ℕ} ByKey (Skip (pos 1) ∷ AsUnordered ∷ Select 0 ∷ []) ≡ Skip (pos 1) ∷ []
before_as_unordered = refl

-- the plan of a query
pub record IsPlanOf {L : Type 0} (q : QueryView L) (plan : Plan L) : Type 0 where
  pub worker : plan.worker.now ≡ worker_part (order_of q.ordered) q.ops
  pub after : plan.after.now ≡ after_part (order_of q.ordered) q.ops
  pub order : plan.order ≡ order_of q.ordered
  pub decided : plan.decided ≡ list_any is_empty_take q.ops
