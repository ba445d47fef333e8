-- The partitions joined are the whole list, and so they have the key properties that it has.
use Rattle.std.proofs.Common.{◌≡◌, ℕ, zero, suc, ◌+◌, ◌*◌, ◌≤◌, true, List, [], ◌∷◌, ◌++◌, length, take, map, sym, ap, ◌∙◌, arith}
use Rattle.std.specs.List.{range_with_len, concat}
use Rattle.std.proofs.Math.Nat.{mul-div_cancel_left, div-mul-le_self, div-le_self}
use Rattle.std.proofs.lemmas.Nat.{le-div}
use Rattle.std.proofs.lemmas.List.{map-append, append-nil, take-append-drop, take-take, take_all}
use Rattle.std.proofs.lemmas.List.Folds.{concat-append}
use Rattle.plinq_keyed.specs.declared.keyed.Keyed.{Keyed}
use Rattle.plinq_keyed.specs.Keys.{keys, key_lists, keyed_from, rises, ordered_in_each, ordered_across, normalized, counts_up}
use Rattle.plinq_keyed.proofs.Rising.{ordered-rising, counts_up-range, keys-keyed_from, rises_from-range}
use Rattle.plinq_partition.specs.Cuts.{between, cut_place, cut, cuts}

cut_place-le : (p count n : ℕ) → 1 ≤ n → cut_place p count n ≤ cut_place (p + 1) count n
cut_place-le p count n some =
    le-div (cut_place p count n) ((p + 1) * count) n (omega arith) (omega (arith, div-mul-le_self (p * count) n))

cut_place-all : (count n : ℕ) → 1 ≤ n → cut_place n count n ≡ count
cut_place-all count n some = mul-div_cancel_left count (omega arith)

-- what stands before a place, and from there up to a later one
take-between : {T : Type 0} (from to : ℕ) (xs : List T) → from ≤ to → take from xs ++ between from to xs ≡ take to xs
take-between from to xs h =
    ap (λ ys. ys ++ between from to xs) (sym (take-take from to xs h)) ∙ take-append-drop from (take to xs)

pub range_with_len-more : (k n : ℕ) → range_with_len k (suc n) ≡ range_with_len k n ++ (k + n) ∷ []
range_with_len-more k zero = let e : k ≡ k + 0 = omega arith in ap (λ j. j ∷ []) e
range_with_len-more k (suc n) =
    let e : k + 1 + n ≡ k + suc n = omega arith in
    ap (λ js. k ∷ js) (range_with_len-more (k + 1) n ∙ ap (λ j. range_with_len (k + 1) n ++ j ∷ []) e)

pub cuts-more : {T : Type 0} (xs : List T) (n p : ℕ) → map (cut xs n) (range_with_len 0 (p + 1)) ≡ map (cut xs n) (range_with_len 0 p) ++ cut xs n p ∷ []
cuts-more xs n p =
    let e : p + 1 ≡ suc p = omega arith in
    let f : 0 + p ≡ p = omega arith in
    ap (λ m. map (cut xs n) (range_with_len 0 m)) e
    ∙ ap (map (cut xs n)) (range_with_len-more 0 p)
    ∙ map-append (cut xs n) (range_with_len 0 p) ((0 + p) ∷ [])
    ∙ ap (λ q. map (cut xs n) (range_with_len 0 p) ++ cut xs n q ∷ []) f

-- the keys of the first p partitions are those before the place of partition p
joined : {T : Type 0} (xs : List (Keyed T)) (n p : ℕ) → 1 ≤ n
    → concat (key_lists (map (cut xs n) (range_with_len 0 p))) ≡ keys (take (cut_place p (length xs) n) xs)
joined xs n zero some =
    let first : 0 ≡ cut_place 0 (length xs) n = omega (arith, div-le_self (0 * length xs) n) in
    ap (λ k. keys (take k xs)) first
joined xs n (suc p) some =
    let e : suc p ≡ p + 1 = omega arith in
    let here = cut xs n p in
    let before = map (cut xs n) (range_with_len 0 p) in
    ap (λ m. concat (key_lists (map (cut xs n) (range_with_len 0 m)))) e
    ∙ ap (λ parts. concat (key_lists parts)) (cuts-more xs n p)
    ∙ ap concat (map-append keys before (here ∷ []))
    ∙ concat-append (key_lists before) (keys here ∷ [])
    ∙ ap (λ ks. concat (key_lists before) ++ ks) (append-nil (keys here))
    ∙ ap (λ ks. ks ++ keys here) (joined xs n p some)
    ∙ sym (map-append (λ (x : Keyed _). x.key) (take (cut_place p (length xs) n) xs) here)
    ∙ ap keys (take-between (cut_place p (length xs) n) (cut_place (p + 1) (length xs) n) xs (cut_place-le p (length xs) n some))
    ∙ ap (λ m. keys (take (cut_place m (length xs) n) xs)) (sym e)

pub keys-cuts : {T : Type 0} (xs : List (Keyed T)) (n : ℕ) → 1 ≤ n → concat (key_lists (cuts xs n)) ≡ keys xs
keys-cuts xs n some =
    joined xs n n some ∙ ap (λ m. keys (take m xs)) (cut_place-all (length xs) n some) ∙ ap keys (take_all (length xs) xs (omega arith))

-- a list whose keys rise is cut into partitions that rise in each and across
pub ordered-cuts : {T : Type 0} (xs : List (Keyed T)) (n : ℕ) → 1 ≤ n → rises (keys xs) ≡ true
    → (ordered_in_each (key_lists (cuts xs n)) ≡ true) × (ordered_across (key_lists (cuts xs n)) ≡ true)
ordered-cuts xs n some h = ordered-rising 0 (key_lists (cuts xs n)) (ap rises (keys-cuts xs n some) ∙ h)

-- a list whose keys are its indexes is cut into normalized partitions
pub normalized-cuts : {T : Type 0} (xs : List T) (n : ℕ) → 1 ≤ n → normalized (key_lists (cuts (keyed_from 0 xs) n)) ≡ true
normalized-cuts xs n some =
    ap counts_up (keys-cuts (keyed_from 0 xs) n some ∙ keys-keyed_from 0 xs) ∙ counts_up-range (length xs)

pub rises-indexes : {T : Type 0} (xs : List T) → rises (keys (keyed_from 0 xs)) ≡ true
rises-indexes xs = ap rises (keys-keyed_from 0 xs) ∙ rises_from-range 0 0 (length xs) (omega arith)
