-- What a chunked source promises of its partitions' keys, these have: their records are the history in another order.
use Rattle.std.proofs.Common.{◌≡◌, ℕ, ◌+◌, ◌≤◌, Bool, true, false, not, cond, ltb, eqb, Option, Some, None, List, [], ◌∷◌, length, All, refl, sym, ap}
use Rattle.std.proofs.Common.{◌∙◌, arith, inl, inr}
use Rattle.std.specs.List.{concat}
use Rattle.std.proofs.lemmas.Bool.{and_parts, and_from, or_parts, or_from, eqb-true, eq-eqb, not_from_false, cases_Bool, false≢true}
use Rattle.std.proofs.lemmas.List.{map-append, append-nil}
use Rattle.std.proofs.lemmas.List.Elements.{All-head, All-tail}
use Rattle.plinq_source.specs.declared.source.Source.{Ghosts}
use Rattle.plinq_source.specs.Trace.{Trace}
use Rattle.plinq_keyed.specs.declared.keyed.Keyed.{Keyed}
use Rattle.plinq_keyed.specs.declared.record.Record.{Record}
use Rattle.plinq_keyed.specs.Keys.{keys, key_lists, keyed_from, is_among, are_distinct, ordered_in_each, normalized, counts_up}
use Rattle.plinq_keyed.specs.inner.Sweeps.{all_below}
use Rattle.plinq_keyed.specs.History.{IsLegalHistory, handed_out, record_items}
use Rattle.plinq_keyed.proofs.Distinct.{counts_up-from}
use Rattle.plinq_ticket.specs.Weights.{total}
use Rattle.plinq_ticket.specs.Shares.{in_ticket_order}
use Rattle.plinq_ticket.proofs.Weights.{total-append, total-ones}
use Rattle.plinq_ticket.proofs.Ordered.{total-in_ticket_order}
use Rattle.plinq_partition.specs.declared.chunked.Chunked.{Chunked}
use Rattle.plinq_partition.specs.declared.partition.Partition.{Partition}
use Rattle.plinq_partition.specs.PartitionRecords.{IsAt, keys_rise_from, share_at}
use Rattle.plinq_partition.specs.Partitions.{IsPartitionOf, all_shares, lists_of}
use Rattle.plinq_partition.proofs.Shares.{ordered-share, normalized-history}

-- ---- numbers that weigh as much as those that count up, count up

-- 1 for a number that isn't below n
abbrev high : ℕ → ℕ → ℕ
high n k = cond (ltb k n) 0 1

high-below : (n k : ℕ) → high n k ≡ 0 → ltb k n ≡ true
high-below n k e =
    elim (cases_Bool (ltb k n)) [
      | inl below ↦ below
      | inr above ↦ (let one : high n k ≡ 1 = ap (λ (b : Bool). let m : ℕ = cond b 0 1 in m) above in absurd (omega arith))
    ]

total-high : (n : ℕ) (ks : List ℕ) → all_below n ks ≡ true → total (high n) ks ≡ 0
total-high n [] e = refl
total-high n (k ∷ ks) e =
    let p = and_parts (ltb k n) _ e in
    let here : high n k ≡ 0 = ap (λ (b : Bool). let m : ℕ = cond b 0 1 in m) p.0 in
    let rest = total-high n ks p.1 in
    omega arith

all_below-total : (n : ℕ) (ks : List ℕ) → total (high n) ks ≡ 0 → all_below n ks ≡ true
all_below-total n [] e = refl
all_below-total n (k ∷ ks) e = and_from _ _ (high-below n k (omega arith)) (all_below-total n ks (omega arith))

-- 1 for the number k
abbrev is_one : ℕ → ℕ → ℕ
is_one k j = cond (eqb k j) 1 0

is_one-same : (k j : ℕ) → eqb k j ≡ true → is_one k j ≡ 1
is_one-same k j e = ap (λ (b : Bool). let m : ℕ = cond b 1 0 in m) e

is_one-other : (k j : ℕ) → eqb k j ≡ false → is_one k j ≡ 0
is_one-other k j e = ap (λ (b : Bool). let m : ℕ = cond b 1 0 in m) e

total-is_one : (k : ℕ) (ks : List ℕ) → is_among ks k ≡ false → total (is_one k) ks ≡ 0
total-is_one k [] e = refl
total-is_one k (j ∷ ks) e = let p = or_parts (eqb k j) _ e in let here = is_one-other k j p.0 in let rest = total-is_one k ks p.1 in omega arith

is_among-none : (k : ℕ) (ks : List ℕ) → total (is_one k) ks ≡ 0 → is_among ks k ≡ false
is_among-none k [] e = refl
is_among-none k (j ∷ ks) e =
    let other : eqb k j ≡ false = elim (cases_Bool (eqb k j)) [ inl same ↦ (let one = is_one-same k j same in absurd (omega arith)) | inr other ↦ other ] in
    or_from _ _ other (is_among-none k ks (omega arith))

total-are_distinct : (k : ℕ) (ks : List ℕ) → are_distinct ks ≡ true → total (is_one k) ks ≤ 1
total-are_distinct k [] e = omega arith
total-are_distinct k (j ∷ ks) e =
    let p = and_parts (not (is_among ks j)) _ e in
    elim (cases_Bool (eqb k j)) [
      | inl same ↦
          let one = is_one-same k j same in
          let at : k ≡ j = eqb-true k j same in
          let none = total-is_one k ks (ap (is_among ks) at ∙ not_true-false (is_among ks j) p.0) in
          omega arith
      | inr other ↦ let zero_here = is_one-other k j other in let rest = total-are_distinct k ks p.1 in omega arith
    ]
  where
    not_true-false : (b : Bool) → not b ≡ true → b ≡ false
    not_true-false true h = absurd (false≢true h)
    not_true-false false h = refl

are_distinct-total : (ks : List ℕ) → ((k : ℕ) → total (is_one k) ks ≤ 1) → are_distinct ks ≡ true
are_distinct-total [] most = refl
are_distinct-total (j ∷ ks) most =
    let here = is_one-same j j (eq-eqb j j refl) in
    let whole = most j in
    let none = is_among-none j ks (omega arith) in
    and_from _ _ (not_from_false _ none) (are_distinct-total ks (λ k. let m = most k in omega arith))

counts_up-alike : (ks js : List ℕ) → ((f : ℕ → ℕ) → total f ks ≡ total f js) → counts_up js ≡ true → counts_up ks ≡ true
counts_up-alike ks js alike up =
    let same : length ks ≡ length js = sym (total-ones ks) ∙ alike (λ _. 1) ∙ total-ones js in
    let p = and_parts (all_below (length js) js) _ (sym (counts_up-from js) ∙ up) in
    let low = all_below-total (length ks) ks (alike (high (length ks)) ∙ ap (λ n. total (high n) js) same ∙ total-high (length js) js p.0) in
    let once = are_distinct-total ks (λ k. let a = alike (is_one k) in let m = total-are_distinct k js p.1 in omega arith) in
    counts_up-from ks ∙ and_from _ _ low once

-- ---- what the elements of records weigh by their keys

weighed : {T : Type 0} → Trace T → (ℕ → ℕ) → Record → ℕ
weighed t f r = total f (keys (keyed_from r.first (record_items t r)))

total-handed_out : {T : Type 0} (t : Trace T) (f : ℕ → ℕ) (rs : List Record) → total f (keys (handed_out t rs)) ≡ total (weighed t f) rs
unfolding weighed
total-handed_out t f [] = refl
total-handed_out t f (r ∷ rs) =
    let here = keyed_from r.first (record_items t r) in
    ap (total f) (map-append (λ (x : Keyed _). x.key) here (handed_out t rs))
    ∙ total-append f (keys here) (keys (handed_out t rs))
    ∙ ap (λ n. total f (keys here) + n) (total-handed_out t f rs)

module _ {S T : Type 0} {source : Ghosts S T} where
  total-lists : (t : Trace T) (f : ℕ → ℕ) (ps : List (Partition S T source))
      → total f (concat (key_lists (lists_of t ps))) ≡ total (weighed t f) (all_shares ps)
  total-lists t f [] = refl
  total-lists t f (p ∷ ps) =
      total-append f (keys (handed_out t (share_at p.pass))) (concat (key_lists (lists_of t ps)))
      ∙ ap (λ n. n + total f (concat (key_lists (lists_of t ps)))) (total-handed_out t f (share_at p.pass))
      ∙ ap (λ n. total (weighed t f) (share_at p.pass) + n) (total-lists t f ps)
      ∙ sym (total-append (weighed t f) (share_at p.pass) (all_shares ps))

  rises-at : (c : Chunked S T source) (p : Partition S T source) → IsPartitionOf c p → keys_rise_from 0 (share_at p.pass) ≡ true
  rises-at c p at = by p.pass at
    where
      by : (o : Option _) → IsAt c.lock p.requests o → keys_rise_from 0 (share_at o) ≡ true
      by None there = absurd there
      by (Some q) there = there.rising

  pub ordered-lists : (c : Chunked S T source) (t : Trace T) (ps : List (Partition S T source)) → All (IsPartitionOf c) ps
      → ordered_in_each (key_lists (lists_of t ps)) ≡ true
  ordered-lists c t [] all = refl
  ordered-lists c t (p ∷ ps) all =
      let here = ordered-share t (share_at p.pass) (rises-at c p (All-head (IsPartitionOf c) p ps all)) in
      and_from _ _ (and_parts _ true here).0 (ordered-lists c t ps (All-tail (IsPartitionOf c) p ps all))

  pub normalized-lists : (t : Trace T) (ps : List (Partition S T source)) → IsLegalHistory t (in_ticket_order (all_shares ps))
      → normalized (key_lists (lists_of t ps)) ≡ true
  normalized-lists t ps legal =
      let h = in_ticket_order (all_shares ps) in
      let up : counts_up (keys (handed_out t h)) ≡ true = ap counts_up (sym (append-nil (keys (handed_out t h)))) ∙ normalized-history t h legal in
      counts_up-alike (concat (key_lists (lists_of t ps))) (keys (handed_out t h))
      (λ f. total-lists t f ps ∙ sym (total-in_ticket_order (weighed t f) (all_shares ps)) ∙ sym (total-handed_out t f h))
      up
