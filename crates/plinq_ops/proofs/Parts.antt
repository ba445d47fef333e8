-- The worker part and the after part of a query's operators.
use Rattle.std.specs.Prelude.{◌≡◌, ◌≤◌, List, [], ◌∷◌, ◌++◌, length, take, drop, true, false, cond, Option, Some, None, refl}
use Rattle.std.specs.List.{list_any}
use Rattle.std.proofs.Common.{sym, ◌∙◌, ap, arith}
use Rattle.std.proofs.lemmas.Bool.{or_parts, and_parts}
use Rattle.std.proofs.lemmas.List.Folds.{list_any-append}
use Rattle.plinq_ops.specs.declared.op.Op.{Op}
use Rattle.plinq_ops.specs.declared.order.Order.{Order}
use Rattle.plinq_ops.specs.declared.order.Order.TheVariants.{ByKey, ByArrival}
use Rattle.plinq_ops.specs.declared.known.Known.{Known}
use Rattle.plinq_ops.specs.declared.known.Known.TheVariants.{Nothing, Key, Position}
use Rattle.plinq_ops.specs.Feeding.{is_empty_take}
use Rattle.plinq_ops.specs.Operator.{needed, keeps_count}
use Rattle.plinq_ops.specs.ByKey.{suffices, can_apply, are_keyless, known_after, without_position, is_by_key_from, is_by_key}
use Rattle.plinq_ops.specs.Plan.{known_at_source, worker_from, after_from, worker_part, after_part}

-- both parts, one after another, are all operators
pub worker-after : {L : Type 0} (known : Known) (ops : List (Op L)) → worker_from known ops ++ after_from known ops ≡ ops
worker-after known [] = refl
worker-after known (op ∷ ops) =
    elim (can_apply known op) as (λ v. cond v (op ∷ worker_from (known_after known op) ops) [] ++ cond v (after_from (known_after known op) ops) (op ∷ ops)
    ≡ op ∷ ops) [
      | true ↦ ap (λ rest. op ∷ rest) (worker-after (known_after known op) ops)
      | false ↦ refl
    ]

pub length-worker-le : {L : Type 0} (known : Known) (ops : List (Op L)) → length (worker_from known ops) ≤ length ops
length-worker-le known [] = omega arith
length-worker-le known (op ∷ ops) =
    let fewer = length-worker-le (known_after known op) ops in
    elim (can_apply known op) as (λ v. length (cond v (op ∷ worker_from (known_after known op) ops) []) ≤ length (op ∷ ops)) [
      | true ↦ omega arith
      | false ↦ omega arith
    ]

pub take-worker : {L : Type 0} (known : Known) (ops : List (Op L)) → take (length (worker_from known ops)) ops ≡ worker_from known ops
take-worker known [] = refl
take-worker known (op ∷ ops) =
    elim (can_apply known op) as (λ v. take (length (cond v (op ∷ worker_from (known_after known op) ops) [])) (op ∷ ops)
    ≡ cond v (op ∷ worker_from (known_after known op) ops) []) [
      | true ↦ ap (λ rest. op ∷ rest) (take-worker (known_after known op) ops)
      | false ↦ refl
    ]

pub drop-worker : {L : Type 0} (known : Known) (ops : List (Op L)) → drop (length (worker_from known ops)) ops ≡ after_from known ops
drop-worker known [] = refl
drop-worker known (op ∷ ops) =
    elim (can_apply known op) as (λ v. drop (length (cond v (op ∷ worker_from (known_after known op) ops) [])) (op ∷ ops)
    ≡ cond v (after_from (known_after known op) ops) (op ∷ ops)) [
      | true ↦ drop-worker (known_after known op) ops
      | false ↦ refl
    ]

-- a worker can apply each operator of the worker part
worker_from-by_key : {L : Type 0} (known : Known) (ops : List (Op L)) → is_by_key_from known (worker_from known ops) ≡ true
worker_from-by_key known [] = refl
worker_from-by_key known (op ∷ ops) =
    elim (can_apply known op) as (λ v. can_apply known op ≡ v → is_by_key_from known (cond v (op ∷ worker_from (known_after known op) ops) []) ≡ true) [
      | true ↦ λ is. let others = worker_from-by_key (known_after known op) ops in cc
      | false ↦ λ is. refl
    ] refl

-- the more is known the more operators can be applied
suffices-knowing_more : (known : Known) (need : Option Known) → suffices Nothing need ≡ true → suffices known need ≡ true
suffices-knowing_more known None is = absurd (let bad : false ≡ true = is in cc)
suffices-knowing_more known (Some Nothing) is = refl
suffices-knowing_more known (Some Key) is = absurd (let bad : false ≡ true = is in cc)
suffices-knowing_more known (Some Position) is = absurd (let bad : false ≡ true = is in cc)

known_after-nothing : {L : Type 0} (op : Op L) → known_after Nothing op ≡ Nothing
known_after-nothing op = elim (keeps_count op) as (λ v. cond v Nothing (without_position Nothing) ≡ Nothing) [ true ↦ refl | false ↦ refl ]

by_key-knowing_more : {L : Type 0} (known : Known) (ops : List (Op L)) → is_by_key_from Nothing ops ≡ true → is_by_key_from known ops ≡ true
by_key-knowing_more known [] keyed = refl
by_key-knowing_more known (op ∷ ops) keyed =
    let both = and_parts (can_apply Nothing op) (is_by_key_from (known_after Nothing op) ops) keyed in
    let first : can_apply known op ≡ true = suffices-knowing_more known (needed op) both.0 in
    let rest : is_by_key_from Nothing ops ≡ true = ap (λ k. is_by_key_from k ops) (sym (known_after-nothing op)) ∙ both.1 in
    let others : is_by_key_from (known_after known op) ops ≡ true = by_key-knowing_more (known_after known op) ops rest in
    cc

pub worker_part-by_key : {L : Type 0} (order : Order) (ops : List (Op L)) → is_by_key (worker_part order ops) ≡ true
worker_part-by_key ByKey ops = worker_from-by_key Position ops
worker_part-by_key ByArrival ops = by_key-knowing_more Position (worker_part ByArrival ops) (worker_from-by_key Nothing ops)

-- where no operator takes none, none in either part does
pub parts-undecided : {L : Type 0} (order : Order) (ops : List (Op L)) → list_any is_empty_take ops ≡ false
    → (list_any is_empty_take (worker_part order ops) ≡ false) × (list_any is_empty_take (after_part order ops) ≡ false)
parts-undecided order ops some =
    or_parts _ _ (sym (list_any-append is_empty_take (worker_part order ops) (after_part order ops))
    ∙ ap (list_any is_empty_take) (worker-after (known_at_source order) ops) ∙ some)

-- ---- operators that don't look at keys

-- by arrival workers know nothing of their elements
worker_from-keyless : {L : Type 0} (ops : List (Op L)) → are_keyless (worker_from Nothing ops) ≡ true
worker_from-keyless [] = refl
worker_from-keyless (op ∷ ops) =
    elim (can_apply Nothing op) as (λ v. can_apply Nothing op ≡ v → are_keyless (cond v (op ∷ worker_from (known_after Nothing op) ops) []) ≡ true) [
      | true ↦ λ is.
          let others : are_keyless (worker_from (known_after Nothing op) ops) ≡ true =
          ap (λ k. are_keyless (worker_from k ops)) (known_after-nothing op) ∙ worker_from-keyless ops in
          cc
      | false ↦ λ is. refl
    ] refl

pub worker-keyless : {L : Type 0} (ops : List (Op L)) → are_keyless (worker_part ByArrival ops) ≡ true
worker-keyless ops = worker_from-keyless ops
