-- How many items are made of a source's: no more than these, so the count of 64 bits is right.
use Rattle.std.specs.Prelude.{◌≡◌, ℕ, ◌≤◌, ◌^◌, List, [], ◌∷◌, length, Option, Some, None, Result, Ok, Err, MatchResult}
use Rattle.std.specs.List.{filter_map}
use Rattle.std.proofs.Common.{arith, ◌∙◌, ap, refl}
use Rattle.plinq_aggregate.specs.Folding.{aggregate_value}
use Rattle.plinq_collect.specs.ItemFoldings.{counting_items, fold_of-counting_items}

module _ {T B : Type 0} (f : T → Option B) where
  few-at : (x : T) (xs : List T) (o : Option B) → f x ≡ o → length (filter_map f xs) ≤ length xs → length (filter_map f (x ∷ xs)) ≤ length (x ∷ xs)
  few-at x xs None is rest =
      let same : filter_map f (x ∷ xs) ≡ filter_map f xs = cc in
      omega (arith, rest, ap length same)
  few-at x xs (Some y) is rest =
      let same : filter_map f (x ∷ xs) ≡ y ∷ filter_map f xs = cc in
      omega (arith, rest, ap length same)

  pub few-made : (xs : List T) → length (filter_map f xs) ≤ length xs
  few-made [] = omega arith
  few-made (x ∷ xs) = few-at x xs (f x) refl (few-made xs)

  pub count-told : {F : Type 0} (E : Type 0) (HasNone : F → Type 0) (xs : List T) → length xs ≤ 2 ^ 40 → (r : Result ℕ F)
      → MatchResult r (λ n. (n ≡ aggregate_value counting_items (filter_map f xs)) × E) HasNone
      → MatchResult r (λ n. (n ≡ length (filter_map f xs)) × E) HasNone
  count-told E HasNone xs few (Ok n) told = (told.0 ∙ fold_of-counting_items (filter_map f xs) ∙ omega (arith, few, few-made xs), told.1)
  count-told E HasNone xs few (Err fault) told = told
