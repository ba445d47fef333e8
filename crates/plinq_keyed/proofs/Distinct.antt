-- Numbers of which none comes twice: joined lists, lists that rise, and that n such numbers below n are all of them.
use Rattle.std.proofs.Common.{◌≡◌, ℕ, zero, suc, ◌+◌, ◌<◌, ◌≤◌, Bool, true, false, not, ◌&&◌, ◌||◌, ltb, leb, eqb, List, [], ◌∷◌, ◌++◌, length, refl}
use Rattle.std.proofs.Common.{sym, ap, ◌∙◌, arith, inl, inr}
use Rattle.std.specs.List.{list_all, range_with_len, IsDistinct, AllByRecursion}
use Rattle.std.proofs.lemmas.Bool.{and_parts, and_from, or_parts, or_from, or_cases, ltb-true, lt-ltb, leb-true, le-leb, eqb-true, ne_eqb, not-true}
use Rattle.std.proofs.lemmas.Bool.{not_from_false, cases_Bool, false≢true}
use Rattle.std.proofs.lemmas.List.Folds.{list_any-append}
use Rattle.std.proofs.lemmas.Map.Steps.{length-le_from_distinct_below}
use Rattle.plinq_keyed.specs.Keys.{is_among, are_distinct, rises_from, rises, counts_up}
use Rattle.plinq_keyed.specs.inner.Sweeps.{are_disjoint, all_below}

not_or : (a b : Bool) → not (a || b) ≡ (not a && not b)
not_or true b = refl
not_or false b = refl

and_regroup : (a b c d : Bool) → (a && b && (c && d)) ≡ (a && c && (b && d))
and_regroup true true c d = refl
and_regroup true false true d = refl
and_regroup true false false d = refl
and_regroup false b c d = refl

pub are_disjoint-append : (ks js is : List ℕ) → are_disjoint ks (js ++ is) ≡ (are_disjoint ks js && are_disjoint ks is)
are_disjoint-append [] js is = refl
are_disjoint-append (k ∷ ks) js is =
    ap (λ b. not b && are_disjoint ks (js ++ is)) (list_any-append (λ j. eqb k j) js is)
    ∙ ap (λ b. b && are_disjoint ks (js ++ is)) (not_or (is_among js k) (is_among is k))
    ∙ ap (λ b. not (is_among js k) && not (is_among is k) && b) (are_disjoint-append ks js is)
    ∙ and_regroup (not (is_among js k)) (not (is_among is k)) (are_disjoint ks js) (are_disjoint ks is)

pub are_disjoint-nil : (ks : List ℕ) → are_disjoint ks [] ≡ true
are_disjoint-nil [] = refl
are_disjoint-nil (k ∷ ks) = are_disjoint-nil ks

and_four : (a b c d e : Bool) → ((a && b) && ((c && d) && e)) ≡ (((a && c) && (b && d)) && e)
and_four true true c d e = refl
and_four true false true d e = refl
and_four true false false d e = refl
and_four false b c d e = refl

pub are_distinct-append : (ks js : List ℕ) → are_distinct (ks ++ js) ≡ (are_distinct ks && are_disjoint ks js && are_distinct js)
are_distinct-append [] js = refl
are_distinct-append (k ∷ ks) js =
    ap (λ b. not b && are_distinct (ks ++ js)) (list_any-append (λ j. eqb k j) ks js)
    ∙ ap (λ b. b && are_distinct (ks ++ js)) (not_or (is_among ks k) (is_among js k))
    ∙ ap (λ b. (not (is_among ks k) && not (is_among js k)) && b) (are_distinct-append ks js)
    ∙ and_four (not (is_among ks k)) (not (is_among js k)) (are_distinct ks) (are_disjoint ks js) (are_distinct js)

pub is_among-rising : (least k : ℕ) (ks : List ℕ) → rises_from least ks ≡ true → k < least → is_among ks k ≡ false
is_among-rising least k [] h b = refl
is_among-rising least k (j ∷ ks) h b =
    let p = and_parts (leb least j) _ h in
    let above : least ≤ j = leb-true least j p.0 in
    or_from _ _ (ne_eqb k j (λ e. omega arith)) (is_among-rising (j + 1) k ks p.1 (omega arith))

pub are_distinct-rising : (least : ℕ) (ks : List ℕ) → rises_from least ks ≡ true → are_distinct ks ≡ true
are_distinct-rising least [] h = refl
are_distinct-rising least (k ∷ ks) h =
    let p = and_parts (leb least k) _ h in
    let none : is_among ks k ≡ false = is_among-rising (k + 1) k ks p.1 (omega arith) in
    and_from _ _ (not_from_false _ none) (are_distinct-rising (k + 1) ks p.1)

pub rises_from-less : (least less : ℕ) (ks : List ℕ) → less ≤ least → rises_from least ks ≡ true → rises_from less ks ≡ true
rises_from-less least less [] b h = refl
rises_from-less least less (k ∷ ks) b h =
    let p = and_parts (leb least k) _ h in
    let above : least ≤ k = leb-true least k p.0 in
    and_from _ _ (le-leb less k (omega arith)) p.1

pub rises-tail : (k : ℕ) (ks : List ℕ) → rises (k ∷ ks) ≡ true → rises ks ≡ true
rises-tail k ks h = rises_from-less (k + 1) 0 ks (omega arith) (and_parts (leb 0 k) _ h).1

-- the lower of two first keys is in no list that rises from the other on
pub are_disjoint-lower_left : (k j : ℕ) (ks js : List ℕ) → k < j → rises (j ∷ js) ≡ true → are_disjoint (k ∷ ks) (j ∷ js) ≡ are_disjoint ks (j ∷ js)
are_disjoint-lower_left k j ks js b h =
    let up : rises_from (k + 1) (j ∷ js) ≡ true = and_from _ _ (le-leb (k + 1) j (omega arith)) (and_parts (leb 0 j) _ h).1 in
    let none : is_among (j ∷ js) k ≡ false = is_among-rising (k + 1) k (j ∷ js) up (omega arith) in
    ap (λ b. not b && are_disjoint ks (j ∷ js)) none

are_disjoint-without : (least j : ℕ) (ks js : List ℕ) → rises_from least ks ≡ true → j < least → are_disjoint ks (j ∷ js) ≡ are_disjoint ks js
are_disjoint-without least j [] js h b = refl
are_disjoint-without least j (k ∷ ks) js h b =
    let p = and_parts (leb least k) _ h in
    let above : least ≤ k = leb-true least k p.0 in
    let ne : eqb k j ≡ false = ne_eqb k j (λ e. omega arith) in
    ap (λ b. not (b || is_among js k) && are_disjoint ks (j ∷ js)) ne
    ∙ ap (λ b. not (is_among js k) && b) (are_disjoint-without (k + 1) j ks js p.1 (omega arith))

pub are_disjoint-lower_right : (k j : ℕ) (ks js : List ℕ) → j < k → rises (k ∷ ks) ≡ true → are_disjoint (k ∷ ks) (j ∷ js) ≡ are_disjoint (k ∷ ks) js
are_disjoint-lower_right k j ks js b h =
    are_disjoint-without (j + 1) j (k ∷ ks) js (and_from _ _ (le-leb (j + 1) k (omega arith)) (and_parts (leb 0 k) _ h).1) (omega arith)

all_differ : (k : ℕ) (ks : List ℕ) → is_among ks k ≡ false → AllByRecursion (λ y. eqb k y ≡ false) ks
all_differ k [] h = tt
all_differ k (j ∷ ks) h = let p = or_parts (eqb k j) _ h in (p.0, all_differ k ks p.1)

IsDistinct-from_distinct : (ks : List ℕ) → are_distinct ks ≡ true → IsDistinct eqb ks
unfolding IsDistinct
IsDistinct-from_distinct [] h = tt
IsDistinct-from_distinct (k ∷ ks) h =
    let p = and_parts (not (is_among ks k)) _ h in
    (all_differ k ks (not-true _ p.0), IsDistinct-from_distinct ks p.1)

below-at : (n q : ℕ) (ks : List ℕ) → all_below n ks ≡ true → is_among ks q ≡ true → q < n
below-at n q [] h m = absurd (false≢true m)
below-at n q (k ∷ ks) h m =
    let p = and_parts (ltb k n) _ h in
    let below : k < n = ltb-true k n p.0 in
    elim (or_cases (eqb q k) _ m) [ inl e ↦ (let same : q ≡ k = eqb-true q k e in omega arith) | inr r ↦ below-at n q ks p.1 r ]

-- as many numbers below n as n, none twice, are all of them
is_among-full : (ks : List ℕ) (q : ℕ) → all_below (length ks) ks ≡ true → are_distinct ks ≡ true → q < length ks → is_among ks q ≡ true
is_among-full ks q below once h =
    elim (cases_Bool (is_among ks q)) [
      | inl e ↦ e
      | inr none ↦
          let more : are_distinct (q ∷ ks) ≡ true = and_from _ _ (not_from_false _ none) once in
          let all : all_below (length ks) (q ∷ ks) ≡ true = and_from _ _ (lt-ltb q (length ks) h) below in
          let few =
          length-le_from_distinct_below (q ∷ ks) (length ks) (IsDistinct-from_distinct (q ∷ ks) more) (λ j m. below-at (length ks) j (q ∷ ks) all m) in
          absurd (omega arith)
    ]

list_all-range : (p : ℕ → Bool) (a n : ℕ) → ((q : ℕ) → q < a + n → p q ≡ true) → list_all p (range_with_len a n) ≡ true
list_all-range p a zero h = refl
list_all-range p a (suc n) h = and_from _ _ (h a (omega arith)) (list_all-range p (a + 1) n (λ q b. h q (omega arith)))

pub counts_up-from : (ks : List ℕ) → counts_up ks ≡ (all_below (length ks) ks && are_distinct ks)
counts_up-from ks =
    elim (cases_Bool (all_below (length ks) ks && are_distinct ks)) [
      | inl e ↦
          let p = and_parts (all_below (length ks) ks) _ e in
          ap (λ b. b && list_all (is_among ks) (range_with_len 0 (length ks))) e
          ∙ list_all-range (is_among ks) 0 (length ks) (λ q b. is_among-full ks q p.0 p.1 (omega arith))
          ∙ sym e
      | inr e ↦ ap (λ b. b && list_all (is_among ks) (range_with_len 0 (length ks))) e ∙ sym e
    ]
