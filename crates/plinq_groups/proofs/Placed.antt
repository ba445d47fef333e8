-- A value at the place of a key, in a map into which the key was inserted.
use Rattle.std.specs.Prelude.{◌≡◌, refl, ℕ, suc, ◌+◌, ◌++◌, Bool, true, false, not, cond, if◌then◌else◌, List, [], ◌∷◌, Option, Some, None, unwrap_or}
use Rattle.std.specs.List.{fold, position_or_len}
use Rattle.std.specs.Map.{keys_of, lookup}
use Rattle.std.proofs.Common.{sym, ◌∙◌, ap, arith, take}
use Rattle.std.proofs.lemmas.List.Sums.{fold-append}
use Rattle.indexmap.specs.IndexMap.{insert_entry, set_value_at}
use Rattle.plinq_aggregate.specs.Folding.{Folding}
use Rattle.plinq_groups.specs.Groups.{placed_groups, with_item, with_group}

set-later : {K A : Type 0} (e : K × A) (es : List (K × A)) (n : ℕ) (w : A) → set_value_at (e ∷ es) (1 + n) w ≡ e ∷ set_value_at es n w
set-later e es n w = let next : 1 + n ≡ suc n = omega arith in ap (λ m. set_value_at (e ∷ es) m w) next

module _ {K A : Type 0} (eq : K → K → Bool) (k : K) (filler new : A) (change : A → A) where
  abbrev pub changed : Option A → A
  changed None = new
  changed (Some a) = change a

  placed_groups-put : (es : List (K × A))
      → set_value_at (insert_entry eq es k filler) (position_or_len (eq k) (keys_of es)) (changed (lookup (eq k) es)) ≡ placed_groups eq k new change es
  placed_groups-put [] = refl
  placed_groups-put (e ∷ es) =
      let here : (b : Bool)
      → set_value_at (if b then (e.0, filler) ∷ es else e ∷ insert_entry eq es k filler) (cond (not b) (1 + position_or_len (eq k) (keys_of es)) 0)
      (changed (cond b (Some e.1) (lookup (eq k) es)))
      ≡ cond b ((e.0, change e.1) ∷ es) (e ∷ placed_groups eq k new change es) =
      elim [
        | true ↦ refl
        | false ↦ set-later e (insert_entry eq es k filler) (position_or_len (eq k) (keys_of es)) (changed (lookup (eq k) es))
            ∙ ap (λ l. e ∷ l) (placed_groups-put es)
      ] in
      here (eq k e.0)

  -- a value was put at the place of a key that was inserted
  pub put-placed_groups : (es : List (K × A)) (i : ℕ) (old : Option A) (w : A) → i ≡ position_or_len (eq k) (keys_of es) → old ≡ lookup (eq k) es
      → w ≡ changed old
      → set_value_at (insert_entry eq es k filler) i w ≡ placed_groups eq k new change es
  put-placed_groups es i old w at was is =
      ap (λ n. set_value_at (insert_entry eq es k filler) n w) at
      ∙ ap (λ v. set_value_at (insert_entry eq es k filler) (position_or_len (eq k) (keys_of es)) v) (is ∙ ap changed was)
      ∙ placed_groups-put es

module _ {K T A O : Type 0} (eq : K → K → Bool) (key : T → K) (f : Folding T A O) where
  updated : (x : T) (old : Option A) → f.update (unwrap_or old f.seed) x ≡ changed eq (key x) f.seed (f.update f.seed x) (λ a. f.update a x) old
  updated x None = refl
  updated x (Some a) = refl

  -- an item was taken in
  pub takes-item : (es es' : List (K × A)) (x : T) (k : K) (filler : A) (i : ℕ) (old : Option A) (w : A) → k ≡ key x
      → i ≡ position_or_len (eq k) (keys_of es) → old ≡ lookup (eq k) es
      → w ≡ f.update (unwrap_or old f.seed) x → es' ≡ set_value_at (insert_entry eq es k filler) i w → es' ≡ with_item eq key f es x
  takes-item es es' x k filler i old w own at was is becomes =
      becomes
      ∙ put-placed_groups eq k filler (f.update f.seed x) (λ a. f.update a x) es i old w at was (is ∙ updated x old)
      ∙ ap (λ j. placed_groups eq j (f.update f.seed x) (λ a. f.update a x) es) own

  -- so the groups are those of one item more
  pub takes-next : (acc es es' : List (K × A)) (block : List T) (i : ℕ) (x : T) → take (i + 1) block ≡ take i block ++ x ∷ []
      → es ≡ fold (with_item eq key f) acc (take i block)
      → es' ≡ with_item eq key f es x → es' ≡ fold (with_item eq key f) acc (take (i + 1) block)
  takes-next acc es es' block i x more before becomes =
      becomes
      ∙ ap (λ e. with_item eq key f e x) before
      ∙ sym (ap (λ l. fold (with_item eq key f) acc l) more ∙ fold-append (with_item eq key f) acc (take i block) (x ∷ []))

  -- a group of later items was taken in
  pub takes-group : (es es' : List (K × A)) (k : K) (a filler : A) (i : ℕ) (old : Option A) (w : A) → i ≡ position_or_len (eq k) (keys_of es)
      → old ≡ lookup (eq k) es
      → w ≡ changed eq k filler a (λ b. f.combine b a) old → es' ≡ set_value_at (insert_entry eq es k filler) i w → es' ≡ with_group eq key f es (k, a)
  takes-group es es' k a filler i old w at was is becomes = becomes ∙ put-placed_groups eq k filler a (λ b. f.combine b a) es i old w at was is

  -- and those that are left come to the same
  pub goes-on : (es es' hs rest whole : List (K × A)) (h : K × A) → hs ≡ h ∷ rest → fold (with_group eq key f) es hs ≡ whole → es' ≡ with_group eq key f es h
      → fold (with_group eq key f) es' rest ≡ whole
  goes-on es es' hs rest whole h first before becomes =
      ap (λ e. fold (with_group eq key f) e rest) becomes ∙ ap (λ l. fold (with_group eq key f) es l) (sym first) ∙ before
