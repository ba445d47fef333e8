-- Elements whose keys are their indexes, and a stretch that grows by one element.
use Rattle.std.proofs.Common.{◌≡◌, ℕ, zero, suc, ◌+◌, ◌<◌, ◌≤◌, List, [], ◌∷◌, ◌++◌, length, take, drop, get_or, refl, sym, ap, ◌∙◌, arith}
use Rattle.std.proofs.lemmas.List.{take_more, drop-append-le, length-take-le}
use Rattle.plinq_keyed.specs.declared.keyed.Keyed.{Keyed}
use Rattle.plinq_keyed.specs.Keys.{keyed_from}
use Rattle.plinq_partition.specs.Cuts.{between}

pub length-keyed_from : {T : Type 0} (k : ℕ) (xs : List T) → length (keyed_from k xs) ≡ length xs
length-keyed_from k [] = refl
length-keyed_from k (x ∷ xs) = ap suc (length-keyed_from (k + 1) xs)

abbrev pub keyed : {T : Type 0} → ℕ → T → Keyed T
keyed k x = record { key = k; value = x }

pub get_or-keyed_from : {T : Type 0} (k : ℕ) (xs : List T) (i : ℕ) (d : Keyed T) (x : T) → i < length xs
    → get_or (keyed_from k xs) i d ≡ keyed (k + i) (get_or xs i x)
get_or-keyed_from k [] i d x h = absurd (omega arith)
get_or-keyed_from k (y ∷ xs) zero d x h = let e : k ≡ k + 0 = omega arith in ap (λ j. keyed j y) e
get_or-keyed_from k (y ∷ xs) (suc i) d x h =
    let e : k + 1 + i ≡ k + suc i = omega arith in
    get_or-keyed_from (k + 1) xs i d x (omega arith) ∙ ap (λ j. keyed j (get_or xs i x)) e

pub between-more : {T : Type 0} (from k : ℕ) (xs : List T) (x : T) → from ≤ k → k < length xs
    → between from (k + 1) xs ≡ between from k xs ++ get_or xs k x ∷ []
between-more from k xs x ordered within =
    let room : from ≤ length (take k xs) = omega (arith, length-take-le k xs (omega arith)) in
    ap (drop from) (take_more xs k x within) ∙ drop-append-le from (take k xs) (get_or xs k x ∷ []) room

pub between-indexes : {T : Type 0} (from k : ℕ) (xs : List T) (x : T) → from ≤ k → k < length xs → x ≡ get_or xs k x
    → between from (k + 1) (keyed_from 0 xs) ≡ between from k (keyed_from 0 xs) ++ keyed k x ∷ []
between-indexes from k xs x ordered within is =
    let e : 0 + k ≡ k = omega arith in
    between-more from k (keyed_from 0 xs) (keyed k x) ordered (omega (arith, length-keyed_from 0 xs))
    ∙ ap (λ y. between from k (keyed_from 0 xs) ++ y ∷ []) (get_or-keyed_from 0 xs k (keyed k x) x within ∙ ap (λ j. keyed j (get_or xs k x)) e
    ∙ ap (keyed k) (sym is))
