-- What a list that collects items has taken of batches, by the items that were added to it.
use Rattle.std.specs.Prelude.{◌≡◌, ℕ, ◌-◌, ◌<◌, ◌≤◌, ◌%◌, List, [], ◌∷◌, ◌++◌, length, take, drop, Some, refl}
use Rattle.std.proofs.Common.{sym, ◌∙◌, ap, append-nil, append_assoc, length-append, arith}
use Rattle.std.proofs.lemmas.List.{append_cancel_right, take-append-drop}
use Rattle.plinq_ops.specs.Batches.{full_batches}
use Rattle.plinq_merge.specs.declared.delivery_fault.DeliveryFault.TheVariants.{Sink}
use Rattle.plinq_merge.specs.Sending.{Leads, IsCutOff}
use Rattle.plinq_merge.proofs.Blocks.{held_back-rest}
use Rattle.plinq_collect.specs.declared.collect.Collect.{Collect}
use Rattle.plinq_collect.specs.Telling.{items_of}
use Rattle.plinq_collect.proofs.JoinedBatches.{items_of-full_batches}

-- the full batches of some items have those that no batch less than full has
pub items_of-full : {T : Type 0} (n : ℕ) (xs : List T) → 0 < n → items_of (full_batches (Some n) [] xs) ≡ take (length xs - length xs % n) xs
items_of-full n xs some =
    let k : ℕ = length xs - length xs % n in
    append_cancel_right (items_of (full_batches (Some n) [] xs)) (take k xs) (drop k xs)
    (rw (held_back-rest n xs some) at (items_of-full_batches (Some n) [] xs) ∙ sym (take-append-drop k xs))

-- a list that had the first of its items alone
beginning : {T : Type 0} (s : Collect T) (xs ys : List T) → s.0.items ≡ xs ++ ys → (m : Collect T) × (m.0.items ≡ xs)
beginning s xs ys parts =
    let v = s.0 in
    let within : length xs ≤ v.cap = omega (arith, v.ok.0, v.ok.1, ap length parts, length-append xs ys) in
    (record { 0 = record { ptr = v.ptr; len = length xs; cap = v.cap; alloc = v.alloc; items = xs; ok = (refl, within); small = v.small } }, refl)

module _ {T : Type 0} where
  abbrev pub Keeps : Collect T → List T → Collect T → Type 0
  Keeps s b s' = s'.0.items ≡ s.0.items ++ b

  abbrev pub Refuses : Collect T → List T → ℕ → Collect T → Type 0
  Refuses s b code s' = (code ≡ 1) × (s'.0.items ≡ s.0.items)

  -- what was added was taken batch by batch
  added-leads : (s s' : Collect T) (b : List T) (bs : List (List T)) → s'.0.items ≡ s.0.items ++ items_of (b ∷ bs) → Leads Keeps s (b ∷ bs) s'
  added-leads s s' b [] added = (s', added ∙ ap (λ ys. s.0.items ++ ys) (append-nil b), refl)
  added-leads s s' b (d ∷ ds) added =
      let parts : s'.0.items ≡ (s.0.items ++ b) ++ items_of (d ∷ ds) = added ∙ sym (append_assoc s.0.items b (items_of (d ∷ ds))) in
      let first = beginning s' (s.0.items ++ b) (items_of (d ∷ ds)) parts in
      (first.0, first.1, added-leads first.0 s' d ds (parts ∙ ap (λ ys. ys ++ items_of (d ∷ ds)) (sym first.1)))

  pub all-added : (s s' : Collect T) (all : List (List T)) (b : List T) (bs : List (List T)) → all ≡ b ∷ bs
      → s'.0.items ≡ s.0.items ++ items_of all → Leads Keeps s all s'
  all-added s s' all b bs parts added = rw parts (added-leads s s' b bs (rw parts at added))

  -- where there is no room the first batch is refused
  pub none-added : (s s' : Collect T) (all : List (List T)) (b : List T) (bs : List (List T)) → all ≡ b ∷ bs → s'.0.items ≡ s.0.items
      → IsCutOff Keeps Refuses s all (Sink 1) s'
  none-added s s' all b bs parts same = ([], b, bs, s, parts, refl, (refl, same))
