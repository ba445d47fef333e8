-- What the groups of items are: the group of the first item's key, and then the groups of the items that have other keys.
use Rattle.std.specs.Prelude.{◌≡◌, refl, Bool, true, false, cond, not, List, [], ◌∷◌, ◌++◌, map}
use Rattle.std.specs.List.{fold, filter}
use Rattle.std.proofs.Common.{sym, ◌∙◌, ap, append_assoc, append-nil}
use Rattle.plinq_aggregate.specs.Folding.{Folding, fold_of}
use Rattle.plinq_groups.specs.Groups.{grouping}
use Rattle.plinq_groups.specs.inner.Joined.{joined_groups, joined_groups-here, joined_groups-later}
use Rattle.plinq_groups.specs.Grouping.{group_of_one, folded_groups, grouped-fold_of}

module _ {K T : Type 0} (eq : K → K → Bool) (key : T → K) where
  -- the items of this key, and those of others
  abbrev pub of_key : K → List T → List T
  of_key k xs = filter (λ x. eq (key x) k) xs

  abbrev pub of_others : K → List T → List T
  of_others k xs = filter (λ x. not (eq (key x) k)) xs

  first-at : (k : K) (ys : List T) (gs : List (K × List T)) (x : T) (xs : List T)
      → ((zs : List T) (hs : List (K × List T)) → fold (joined_groups eq) ((k, zs) ∷ hs) (map (group_of_one key) xs)
      ≡ (k, zs ++ of_key k xs) ∷ fold (joined_groups eq) hs (map (group_of_one key) (of_others k xs)))
      → (b : Bool) → eq (key x) k ≡ b
      → fold (joined_groups eq) ((k, ys) ∷ gs) (map (group_of_one key) (x ∷ xs))
      ≡ (k, ys ++ of_key k (x ∷ xs)) ∷ fold (joined_groups eq) gs (map (group_of_one key) (of_others k (x ∷ xs)))
  first-at k ys gs x xs rest true is =
      ap (λ z. fold (joined_groups eq) z (map (group_of_one key) xs)) (joined_groups-here eq (k, ys) (group_of_one key x) gs is)
      ∙ rest (ys ++ x ∷ []) gs
      ∙ ap (λ zs. (k, zs) ∷ fold (joined_groups eq) gs (map (group_of_one key) (of_others k xs))) (append_assoc ys (x ∷ []) (of_key k xs))
      ∙ sym (ap (λ b. (k, ys ++ cond b (x ∷ of_key k xs) (of_key k xs))
      ∷ fold (joined_groups eq) gs (map (group_of_one key) (cond (not b) (x ∷ of_others k xs) (of_others k xs)))) is)
  first-at k ys gs x xs rest false is =
      ap (λ z. fold (joined_groups eq) z (map (group_of_one key) xs)) (joined_groups-later eq (k, ys) (group_of_one key x) gs is)
      ∙ rest ys (joined_groups eq gs (group_of_one key x))
      ∙ sym (ap (λ b. (k, ys ++ cond b (x ∷ of_key k xs) (of_key k xs))
      ∷ fold (joined_groups eq) gs (map (group_of_one key) (cond (not b) (x ∷ of_others k xs) (of_others k xs)))) is)

  first-of : (k : K) (xs ys : List T) (gs : List (K × List T))
      → fold (joined_groups eq) ((k, ys) ∷ gs) (map (group_of_one key) xs)
      ≡ (k, ys ++ of_key k xs) ∷ fold (joined_groups eq) gs (map (group_of_one key) (of_others k xs))
  first-of k [] ys gs = ap (λ zs. (k, zs) ∷ gs) (sym (append-nil ys))
  first-of k (x ∷ xs) ys gs = first-at k ys gs x xs (first-of k xs) (eq (key x) k) refl

  module _ {A O : Type 0} (f : Folding T A O) where
    pub no-groups : fold_of (grouping eq key f) [] ≡ []
    no-groups = refl

    -- the first group has the key of the first item, and folds that item and all others of its key in their order
    pub first-group : (x : T) (xs : List T)
        → fold_of (grouping eq key f) (x ∷ xs) ≡ (key x, fold_of f (x ∷ of_key (key x) xs)) ∷ fold_of (grouping eq key f) (of_others (key x) xs)
    first-group x xs =
        grouped-fold_of eq key f (x ∷ xs)
        ∙ ap (folded_groups f) (first-of (key x) xs (x ∷ []) [])
        ∙ ap (λ gs. (key x, fold_of f (x ∷ of_key (key x) xs)) ∷ gs) (sym (grouped-fold_of eq key f (of_others (key x) xs)))
