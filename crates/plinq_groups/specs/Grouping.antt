-- A grouping is lawful wherever the folding of its groups is.
use Rattle.std.specs.Prelude.{◌≡◌, refl, Bool, true, false, cond, List, [], ◌∷◌, ◌++◌, map}
use Rattle.std.specs.List.{fold}
use Rattle.std.specs.Cmp.{IsEquivalence}
use Rattle.std.proofs.Common.{sym, ◌∙◌, ap}
use Rattle.std.proofs.lemmas.List.{map-append}
use Rattle.std.proofs.lemmas.List.Sums.{fold-append}
use Rattle.plinq_aggregate.specs.Folding.{Folding, fold_of, IsFolding}
use Rattle.plinq_groups.specs.Groups.{placed_groups, with_item, with_group, grouping}
use Rattle.plinq_groups.specs.inner.Joined.{joined_groups, joined_groups-here, joined_groups-later, joins-apart}

-- a group of one item
abbrev pub group_of_one : {K T : Type 0} → (T → K) → T → K × List T
group_of_one key x = (key x, x ∷ [])

-- items into the groups of their keys, each a list
abbrev pub collected_groups : {K T : Type 0} → (K → K → Bool) → (T → K) → List T → List (K × List T)
collected_groups eq key xs = fold (joined_groups eq) [] (map (group_of_one key) xs)

-- groups of lists, each list folded
abbrev pub folded_groups : {K T A O : Type 0} → Folding T A O → List (K × List T) → List (K × A)
folded_groups f gs = map (λ g. (g.0, fold_of f g.1)) gs

module _ {K T A O : Type 0} (eq : K → K → Bool) (key : T → K) (f : Folding T A O) where
  placed_groups-here : (k : K) (new : A) (change : A → A) (g : K × A) (gs : List (K × A)) → eq k g.0 ≡ true
      → placed_groups eq k new change (g ∷ gs) ≡ (g.0, change g.1) ∷ gs
  placed_groups-here k new change g gs is = ap (λ b. cond b ((g.0, change g.1) ∷ gs) (g ∷ placed_groups eq k new change gs)) is

  placed_groups-later : (k : K) (new : A) (change : A → A) (g : K × A) (gs : List (K × A)) → eq k g.0 ≡ false
      → placed_groups eq k new change (g ∷ gs) ≡ g ∷ placed_groups eq k new change gs
  placed_groups-later k new change g gs is = ap (λ b. cond b ((g.0, change g.1) ∷ gs) (g ∷ placed_groups eq k new change gs)) is

  -- a group that is changed as its list is joined
  folds-placed_groups-at : (h : K × List T) (change : A → A) → ((xs : List T) → fold_of f (xs ++ h.1) ≡ change (fold_of f xs))
      → (g : K × List T) (gs : List (K × List T))
      → folded_groups f (joined_groups eq gs h) ≡ placed_groups eq h.0 (fold_of f h.1) change (folded_groups f gs)
      → (b : Bool) → eq h.0 g.0 ≡ b → folded_groups f (joined_groups eq (g ∷ gs) h) ≡ placed_groups eq h.0 (fold_of f h.1) change (folded_groups f (g ∷ gs))
  folds-placed_groups-at h change same g gs rest true is =
      ap (folded_groups f) (joined_groups-here eq g h gs is)
      ∙ ap (λ a. (g.0, a) ∷ folded_groups f gs) (same g.1)
      ∙ sym (placed_groups-here h.0 (fold_of f h.1) change (g.0, fold_of f g.1) (folded_groups f gs) is)
  folds-placed_groups-at h change same g gs rest false is =
      ap (folded_groups f) (joined_groups-later eq g h gs is)
      ∙ ap (λ x. (g.0, fold_of f g.1) ∷ x) rest
      ∙ sym (placed_groups-later h.0 (fold_of f h.1) change (g.0, fold_of f g.1) (folded_groups f gs) is)

  folds-placed_groups : (h : K × List T) (change : A → A) → ((xs : List T) → fold_of f (xs ++ h.1) ≡ change (fold_of f xs)) → (gs : List (K × List T))
      → folded_groups f (joined_groups eq gs h) ≡ placed_groups eq h.0 (fold_of f h.1) change (folded_groups f gs)
  folds-placed_groups h change same [] = refl
  folds-placed_groups h change same (g ∷ gs) = folds-placed_groups-at h change same g gs (folds-placed_groups h change same gs) (eq h.0 g.0) refl

  folds-items : (gs : List (K × List T)) (xs : List T) → fold (with_item eq key f) (folded_groups f gs) xs
      ≡ folded_groups f (fold (joined_groups eq) gs (map (group_of_one key) xs))
  folds-items gs [] = refl
  folds-items gs (x ∷ xs) =
      let joined = folds-placed_groups (group_of_one key x) (λ a. f.update a x) (λ ys. fold-append f.update f.seed ys (x ∷ [])) gs in
      ap (λ a. fold (with_item eq key f) a xs) (sym joined) ∙ folds-items (joined_groups eq gs (group_of_one key x)) xs

  -- the groups' accumulators are those of the items in them
  pub grouped-fold_of : (xs : List T) → fold_of (grouping eq key f) xs ≡ folded_groups f (collected_groups eq key xs)
  grouped-fold_of xs = folds-items [] xs

  folds-groups : IsFolding f → (gs hs : List (K × List T)) → fold (with_group eq key f) (folded_groups f gs) (folded_groups f hs)
      ≡ folded_groups f (fold (joined_groups eq) gs hs)
  folds-groups lawful gs [] = refl
  folds-groups lawful gs (h ∷ hs) =
      ap (λ a. fold (with_group eq key f) a (folded_groups f hs))
      (sym (folds-placed_groups h (λ a. f.combine a (fold_of f h.1)) (λ ys. sym (lawful.joins ys h.1)) gs))
      ∙ folds-groups lawful (joined_groups eq gs h) hs

  joins : IsEquivalence eq → IsFolding f → (xs ys : List T) → fold (with_group eq key f) (fold_of (grouping eq key f) xs) (fold_of (grouping eq key f) ys)
      ≡ fold_of (grouping eq key f) (xs ++ ys)
  joins equal lawful xs ys =
      ap (λ a. fold (with_group eq key f) a (fold_of (grouping eq key f) ys)) (grouped-fold_of xs)
      ∙ ap (λ a. fold (with_group eq key f) (folded_groups f (collected_groups eq key xs)) a) (grouped-fold_of ys)
      ∙ folds-groups lawful (collected_groups eq key xs) (collected_groups eq key ys)
      ∙ ap (folded_groups f) (joins-apart eq equal (collected_groups eq key xs) (map (group_of_one key) ys)
      ∙ sym (fold-append (joined_groups eq) [] (map (group_of_one key) xs) (map (group_of_one key) ys))
      ∙ ap (λ zs. fold (joined_groups eq) [] zs) (sym (map-append (group_of_one key) xs ys)))
      ∙ sym (grouped-fold_of (xs ++ ys))

  pub grouping-lawful : IsEquivalence eq → IsFolding f → IsFolding (grouping eq key f)
  grouping-lawful equal lawful = record { joins = joins equal lawful; neutral = λ xs. joins equal lawful [] xs }
