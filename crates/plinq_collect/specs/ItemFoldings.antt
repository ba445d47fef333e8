-- Foldings of items of any type: whether there is one, and how many there are.
use Rattle.std.proofs.Common.{◌≡◌, ℕ, ◌+◌, ◌%◌, ◌^◌, List, [], ◌∷◌, ◌++◌, length, Bool, true, false, ◌||◌}
use Rattle.std.proofs.Common.{refl, sym, ◌∙◌, ap, arith, add-zero, length-append, Option, Some, None}
use Rattle.std.specs.List.{fold}
use Rattle.std.proofs.Math.Nat.{add-mod-mod, mod-add-mod}
use Rattle.plinq_aggregate.specs.Folding.{Folding, IsFolding, fold_of}
use Rattle.plinq_aggregate.specs.Numbers.{picking}
use Rattle.plinq_aggregate.specs.Lawful.{picking-lawful}

-- the first item, if there is one
abbrev pub first_of : {T : Type 0} → List T → Option T
first_of [] = None
first_of (x ∷ xs) = Some x

-- whether there is an item
abbrev pub has_item : {T : Type 0} → List T → Bool
has_item [] = false
has_item (x ∷ xs) = true

-- whether there is none
abbrev pub has_none : {T : Type 0} → List T → Bool
has_none [] = true
has_none (x ∷ xs) = false

-- how many items there are, modulo 2^64
abbrev pub wrapped_count : {T : Type 0} → List T → ℕ
wrapped_count xs = length xs % 2 ^ 64

abbrev pub being_there : {T : Type 0} → Folding T Bool Bool
being_there = record { seed = false; update = λ is x. true; combine = λ a b. a || b; tell = λ is. is }

there-from : {T : Type 0} (xs : List T) → fold (being_there {T = T}).update true xs ≡ true
there-from [] = refl
there-from (x ∷ xs) = there-from xs

pub fold_of-there : {T : Type 0} (xs : List T) → fold_of being_there xs ≡ has_item xs
fold_of-there [] = refl
fold_of-there (x ∷ xs) = there-from xs

there-joins : {T : Type 0} (xs ys : List T) → (fold_of being_there xs || fold_of being_there ys) ≡ fold_of being_there (xs ++ ys)
there-joins [] ys = refl
there-joins (x ∷ xs) ys = ap (λ b. b || fold_of being_there ys) (there-from xs) ∙ sym (there-from (xs ++ ys))

pub being_there-lawful : {T : Type 0} → IsFolding (being_there {T = T})
being_there-lawful = record { joins = there-joins; neutral = λ xs. refl }

abbrev pub counting_items : {T : Type 0} → Folding T ℕ ℕ
counting_items = record { seed = 0; update = λ count x. (count + 1) % 2 ^ 64; combine = λ a b. (a + b) % 2 ^ 64; tell = λ count. count }

pub count-from : {T : Type 0} (n : ℕ) (xs : List T) → fold counting_items.update (n % 2 ^ 64) xs ≡ (n + length xs) % 2 ^ 64
count-from n [] = ap (λ m. m % 2 ^ 64) (sym (add-zero n))
count-from n (x ∷ xs) =
    ap (λ m. fold counting_items.update m xs) (mod-add-mod n (2 ^ 64) 1)
    ∙ count-from (n + 1) xs
    ∙ ap (λ m. m % 2 ^ 64) (omega arith)

pub fold_of-counting_items : {T : Type 0} (xs : List T) → fold_of counting_items xs ≡ wrapped_count xs
fold_of-counting_items xs = count-from 0 xs ∙ ap (λ m. m % 2 ^ 64) (omega arith)

-- the first of all; of none there is none
abbrev pub picking_first : {T : Type 0} → Folding T (Option T) (Option T)
picking_first = picking (λ a b. a)

pub picking_first-lawful : {T : Type 0} → IsFolding (picking_first {T = T})
picking_first-lawful = picking-lawful (λ a b. a) (λ a b c. refl)

first-from : {T : Type 0} (x : T) (xs : List T) → fold (picking_first {T = T}).update (Some x) xs ≡ Some x
first-from x [] = refl
first-from x (y ∷ ys) = first-from x ys

pub fold_of-first : {T : Type 0} (xs : List T) → fold_of picking_first xs ≡ first_of xs
fold_of-first [] = refl
fold_of-first (x ∷ xs) = first-from x xs

counts-join : {T : Type 0} (xs ys : List T) → (fold_of counting_items xs + fold_of counting_items ys) % 2 ^ 64 ≡ fold_of counting_items (xs ++ ys)
counts-join xs ys =
    ap (λ m. (m + fold_of counting_items ys) % 2 ^ 64) (fold_of-counting_items xs)
    ∙ ap (λ m. (length xs % 2 ^ 64 + m) % 2 ^ 64) (fold_of-counting_items ys)
    ∙ mod-add-mod (length xs) (2 ^ 64) (length ys % 2 ^ 64)
    ∙ add-mod-mod (length xs) (length ys) (2 ^ 64)
    ∙ ap (λ m. m % 2 ^ 64) (sym (length-append xs ys))
    ∙ sym (fold_of-counting_items (xs ++ ys))

pub counting_items-lawful : {T : Type 0} → IsFolding (counting_items {T = T})
counting_items-lawful = record { joins = counts-join; neutral = λ xs. counts-join [] xs }
