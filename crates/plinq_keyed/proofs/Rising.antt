-- Keys that rise all along the partitions rise in each and across them; keys that count up are normalized.
use Rattle.std.proofs.Common.{◌≡◌, ℕ, zero, suc, ◌+◌, ◌<◌, ◌≤◌, true, leb, List, [], ◌∷◌, ◌++◌, length, take, refl, ap, ◌∙◌, arith}
use Rattle.std.specs.List.{list_all, concat, range_with_len}
use Rattle.std.proofs.lemmas.Bool.{and_parts, and_from, leb-true, le-leb, lt-ltb}
use Rattle.std.proofs.lemmas.List.{length-take-le}
use Rattle.std.proofs.lemmas.List.FromFn.{length-range_with_len}
use Rattle.plinq_keyed.specs.Keys.{keys, keyed_from, rises_from, is_below, ordered_in_each, ordered_across, counts_up}
use Rattle.plinq_keyed.specs.inner.Sweeps.{all_below}
use Rattle.plinq_source.specs.Trace.{Trace}
use Rattle.plinq_keyed.specs.declared.record.Record.{Record}
use Rattle.plinq_keyed.specs.History.{IsLegalHistory, handed_out, given_by}
use Rattle.plinq_keyed.proofs.Legal.{IsPrefix-from_legal}
use Rattle.plinq_keyed.proofs.Distinct.{rises_from-less, are_distinct-rising, counts_up-from}

pub is_below-rising : (least k : ℕ) (js : List ℕ) → rises_from least js ≡ true → k < least → is_below js k ≡ true
is_below-rising least k [] h b = refl
is_below-rising least k (j ∷ js) h b =
    let p = and_parts (leb least j) _ h in
    let above : least ≤ j = leb-true least j p.0 in
    and_from _ _ (lt-ltb k j (omega arith)) (is_below-rising (j + 1) k js p.1 (omega arith))

-- what rises along two lists: it rises in the first, the first is below the second, and it rises in the second
pub rises_from-parts : (least : ℕ) (ks js : List ℕ) → rises_from least (ks ++ js) ≡ true
    → (rises_from least ks ≡ true) × (list_all (is_below js) ks ≡ true) × (rises_from least js ≡ true)
rises_from-parts least [] js h = (refl, refl, h)
rises_from-parts least (k ∷ ks) js h =
    let p = and_parts (leb least k) _ h in
    let above : least ≤ k = leb-true least k p.0 in
    let rest = rises_from-parts (k + 1) ks js p.1 in (
      and_from _ _ p.0 rest.0,
      and_from _ _ (is_below-rising (k + 1) k js rest.2 (omega arith)) rest.1,
      rises_from-less (k + 1) least js (omega arith) rest.2,
    )

pub ordered-rising : (least : ℕ) (kss : List (List ℕ)) → rises_from least (concat kss) ≡ true → (ordered_in_each kss ≡ true) × (ordered_across kss ≡ true)
ordered-rising least [] h = (refl, refl)
ordered-rising least (ks ∷ kss) h =
    let p = rises_from-parts least ks (concat kss) h in
    let rest = ordered-rising least kss p.2 in
    (and_from _ _ (rises_from-less least 0 ks (omega arith) p.0) rest.0, and_from _ _ p.1 rest.1)

pub keys-keyed_from : {T : Type 0} (k : ℕ) (xs : List T) → keys (keyed_from k xs) ≡ range_with_len k (length xs)
keys-keyed_from k [] = refl
keys-keyed_from k (x ∷ xs) = ap (λ ks. k ∷ ks) (keys-keyed_from (k + 1) xs)

pub rises_from-range : (least k n : ℕ) → least ≤ k → rises_from least (range_with_len k n) ≡ true
rises_from-range least k zero h = refl
rises_from-range least k (suc n) h = and_from _ _ (le-leb least k h) (rises_from-range (k + 1) (k + 1) n (omega arith))

all_below-range : (bound k n : ℕ) → k + n ≤ bound → all_below bound (range_with_len k n) ≡ true
all_below-range bound k zero h = refl
all_below-range bound k (suc n) h = and_from _ _ (lt-ltb k bound (omega arith)) (all_below-range bound (k + 1) n (omega arith))

pub counts_up-range : (n : ℕ) → counts_up (range_with_len 0 n) ≡ true
counts_up-range n =
    counts_up-from (range_with_len 0 n)
    ∙ and_from _ _
    (ap (λ m. all_below m (range_with_len 0 n)) (length-range_with_len 0 n) ∙ all_below-range n 0 n (omega arith))
    (are_distinct-rising 0 (range_with_len 0 n) (rises_from-range 0 0 n (omega arith)))

-- the keys of what a legal history hands out count up from 0
pub keys-handed_out : {T : Type 0} (t : Trace T) (h : List Record) → IsLegalHistory t h → keys (handed_out t h) ≡ range_with_len 0 (given_by t h)
keys-handed_out t h legal =
    let p = IsPrefix-from_legal t h legal in
    ap keys p.prefix ∙ keys-keyed_from 0 (take (given_by t h) t.items) ∙ ap (range_with_len 0) (length-take-le (given_by t h) t.items p.within)
