-- The four foldings of numbers are lawful, and what they come to.
use Rattle.std.proofs.Common.{◌≡◌, ℕ, suc, ◌+◌, ◌%◌, ◌^◌, ℤ, pos, ◌+ℤ◌, List, [], ◌∷◌, ◌++◌, length, Option, Some, None, refl, sym, ◌∙◌, ap, arith, add-zero}
use Rattle.std.proofs.Common.{length-append, ◌≤ℤ◌, ◌⊎◌, inl, inr}
use Rattle.std.specs.List.{fold, Contains}
use Rattle.std.specs.Int.{int_wrap, w128, int_min, int_max}
use Rattle.std.proofs.lemmas.Int.{ints, int_wrap-add_left, int_wrap-add_right, fold-int_min_reached, fold-int_min_bounds, fold-int_max_reached}
use Rattle.std.proofs.lemmas.Int.{fold-int_max_bounds}
use Rattle.std.proofs.Math.Nat.{add-mod-mod, mod-add-mod}
use Rattle.std.proofs.lemmas.List.Elements.{All-cons}
use Rattle.std.proofs.lemmas.List.Sums.{fold-append}
use Rattle.std.proofs.Math.IntN.{+ℤ_assoc, +ℤ_idl, +ℤ_idr}
use Rattle.plinq_aggregate.specs.Folding.{fold_of, IsFolding}
use Rattle.plinq_aggregate.specs.Numbers.{wrapped_number, whole_sum, summing, counting, picked_item, picking, IsBest}

-- ---- the sum

pub whole_sum-append : (xs ys : List ℤ) → whole_sum (xs ++ ys) ≡ whole_sum xs +ℤ whole_sum ys
whole_sum-append [] ys = sym (+ℤ_idl (whole_sum ys))
whole_sum-append (x ∷ xs) ys = ap (λ n. x +ℤ n) (whole_sum-append xs ys) ∙ sym (+ℤ_assoc x (whole_sum xs) (whole_sum ys))

-- a sum that went on from a wrapped one is the whole one, wrapped
sum-from : (z : ℤ) (xs : List ℤ) → fold summing.update (wrapped_number z) xs ≡ wrapped_number (z +ℤ whole_sum xs)
sum-from z [] = ap wrapped_number (sym (+ℤ_idr z))
sum-from z (x ∷ xs) =
    ap (λ n. fold summing.update n xs) (int_wrap-add_left w128 z x)
    ∙ sum-from (z +ℤ x) xs
    ∙ ap wrapped_number (+ℤ_assoc z x (whole_sum xs))

-- the sum is the whole sum, wrapped
pub fold_of-sum : (xs : List ℤ) → fold_of summing xs ≡ wrapped_number (whole_sum xs)
unfolding int_wrap
fold_of-sum xs = sum-from (pos 0) xs ∙ ap wrapped_number (+ℤ_idl (whole_sum xs))

-- wrapping on the way changes nothing
wrapped_number-both : (a b : ℤ) → wrapped_number (wrapped_number a +ℤ wrapped_number b) ≡ wrapped_number (a +ℤ b)
wrapped_number-both a b = int_wrap-add_left w128 a (wrapped_number b) ∙ int_wrap-add_right w128 a b

sums-join : (xs ys : List ℤ) → wrapped_number (fold_of summing xs +ℤ fold_of summing ys) ≡ fold_of summing (xs ++ ys)
sums-join xs ys =
    ap (λ n. wrapped_number (n +ℤ fold_of summing ys)) (fold_of-sum xs)
    ∙ ap (λ n. wrapped_number (wrapped_number (whole_sum xs) +ℤ n)) (fold_of-sum ys)
    ∙ wrapped_number-both (whole_sum xs) (whole_sum ys)
    ∙ ap wrapped_number (sym (whole_sum-append xs ys))
    ∙ sym (fold_of-sum (xs ++ ys))

pub summing-lawful : IsFolding summing
summing-lawful = record { joins = sums-join; neutral = λ xs. sums-join [] xs }

-- ---- the number of items

pub count-from : (n : ℕ) (xs : List ℤ) → fold counting.update (n % 2 ^ 64) xs ≡ (n + length xs) % 2 ^ 64
count-from n [] = ap (λ m. m % 2 ^ 64) (sym (add-zero n))
count-from n (x ∷ xs) =
    ap (λ m. fold counting.update m xs) (mod-add-mod n (2 ^ 64) 1)
    ∙ count-from (n + 1) xs
    ∙ ap (λ m. m % 2 ^ 64) (omega arith)

pub fold_of-count : (xs : List ℤ) → fold_of counting xs ≡ length xs % 2 ^ 64
fold_of-count xs = count-from 0 xs ∙ ap (λ m. m % 2 ^ 64) (omega arith)

counts-join : (xs ys : List ℤ) → (fold_of counting xs + fold_of counting ys) % 2 ^ 64 ≡ fold_of counting (xs ++ ys)
counts-join xs ys =
    ap (λ m. (m + fold_of counting ys) % 2 ^ 64) (fold_of-count xs)
    ∙ ap (λ m. (length xs % 2 ^ 64 + m) % 2 ^ 64) (fold_of-count ys)
    ∙ mod-add-mod (length xs) (2 ^ 64) (length ys % 2 ^ 64)
    ∙ add-mod-mod (length xs) (length ys) (2 ^ 64)
    ∙ ap (λ m. m % 2 ^ 64) (sym (length-append xs ys))
    ∙ sym (fold_of-count (xs ++ ys))

pub counting-lawful : IsFolding counting
counting-lawful = record { joins = counts-join; neutral = λ xs. counts-join [] xs }

-- ---- the item that is picked

-- picking of more than two in whatever grouping
abbrev pub IsGrouped : {T : Type 0} → (T → T → T) → Type 0
IsGrouped {T} pick = (a b c : T) → pick a (pick b c) ≡ pick (pick a b) c

picked_item-grouped : {T : Type 0} (pick : T → T → T) → IsGrouped pick → (a b : Option T) (x : T)
    → picked_item pick a (picked_item pick b (Some x)) ≡ picked_item pick (picked_item pick a b) (Some x)
picked_item-grouped pick grouped None b x = refl
picked_item-grouped pick grouped (Some a) None x = refl
picked_item-grouped pick grouped (Some a) (Some b) x = ap Some (grouped a b x)

picked_item-through : {T : Type 0} (pick : T → T → T) → IsGrouped pick → (a b : Option T) (xs : List T)
    → picked_item pick a (fold (picking pick).update b xs) ≡ fold (picking pick).update (picked_item pick a b) xs
picked_item-through pick grouped a b [] = refl
picked_item-through pick grouped a b (x ∷ xs) =
    picked_item-through pick grouped a (picked_item pick b (Some x)) xs
    ∙ ap (λ n. fold (picking pick).update n xs) (picked_item-grouped pick grouped a b x)

picked_item-none : {T : Type 0} (pick : T → T → T) (a : Option T) → picked_item pick a None ≡ a
picked_item-none pick None = refl
picked_item-none pick (Some a) = refl

picks-join : {T : Type 0} (pick : T → T → T) → IsGrouped pick → (xs ys : List T)
    → picked_item pick (fold_of (picking pick) xs) (fold_of (picking pick) ys) ≡ fold_of (picking pick) (xs ++ ys)
picks-join pick grouped xs ys =
    picked_item-through pick grouped (fold_of (picking pick) xs) None ys
    ∙ ap (λ n. fold (picking pick).update n ys) (picked_item-none pick (fold_of (picking pick) xs))
    ∙ sym (fold-append (picking pick).update None xs ys)

pub picking-lawful : {T : Type 0} (pick : T → T → T) → IsGrouped pick → IsFolding (picking pick)
picking-lawful pick grouped = record { joins = picks-join pick grouped; neutral = λ xs. refl }

-- ---- the least and the greatest

int_min-grouped : IsGrouped int_min
int_min-grouped a b c = grind (arith, ints)

int_max-grouped : IsGrouped int_max
int_max-grouped a b c = grind (arith, ints)

pub picking_min-lawful : IsFolding (picking int_min)
picking_min-lawful = picking-lawful int_min int_min-grouped

pub picking_max-lawful : IsFolding (picking int_max)
picking_max-lawful = picking-lawful int_max int_max-grouped

-- from a number on, picking is the fold of the numbers
picked-from : (pick : ℤ → ℤ → ℤ) (a : ℤ) (xs : List ℤ) → fold (picking pick).update (Some a) xs ≡ Some (fold pick a xs)
picked-from pick a [] = refl
picked-from pick a (x ∷ xs) = picked-from pick (pick a x) xs

-- what is the first or one of the rest is one of all
contains-one : (a : ℤ) (xs : List ℤ) (best : ℤ) → (best ≡ a) ⊎ Contains xs best → Contains (a ∷ xs) best
contains-one a xs best (inl first) = (0, omega arith, sym first)
contains-one a xs best (inr (k, below, there)) = (suc k, omega (arith, below), there)

pub fold_of-min : (xs : List ℤ) → IsBest (λ least x. least ≤ℤ x) xs (fold_of (picking int_min) xs)
fold_of-min [] = refl
fold_of-min (x ∷ xs) =
    let least = fold int_min x xs in
    let bounds = fold-int_min_bounds x xs least refl in
    let best : IsBest (λ y z. y ≤ℤ z) (x ∷ xs) (Some least) =
    (contains-one x xs least (fold-int_min_reached x xs least refl), All-cons (λ z. least ≤ℤ z) x xs bounds.0 bounds.1) in
    rw (picked-from int_min x xs) best

pub fold_of-max : (xs : List ℤ) → IsBest (λ greatest x. x ≤ℤ greatest) xs (fold_of (picking int_max) xs)
fold_of-max [] = refl
fold_of-max (x ∷ xs) =
    let greatest = fold int_max x xs in
    let bounds = fold-int_max_bounds x xs greatest refl in
    let best : IsBest (λ y z. z ≤ℤ y) (x ∷ xs) (Some greatest) =
    (contains-one x xs greatest (fold-int_max_reached x xs greatest refl), All-cons (λ z. z ≤ℤ greatest) x xs bounds.0 bounds.1) in
    rw (picked-from int_max x xs) best
