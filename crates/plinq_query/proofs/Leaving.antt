-- What a step more makes of what steps by position leave.
use Rattle.std.specs.Prelude.{◌≡◌, List, [], ◌∷◌, Bool, true, false, not, Option, Some, is_some}
use Rattle.std.specs.List.{filter_map, list_any, list_all}
use Rattle.std.specs.Bool.{beq}
use Rattle.std.proofs.Common.{refl, ◌∙◌, ap}
use Rattle.plinq_collect.specs.ItemFoldings.{first_of}
use Rattle.plinq_steps.specs.Makes.{selected, passed}
use Rattle.plinq_steps.specs.Means.{Follows, FollowsBy, keeping, kept_open, undecided}
use Rattle.plinq_passing.proofs.Searching.{any-passed, any-true, any-false}

module _ {A B C : Type 0} {Before : (List A → List B) → (List A → Bool) → Type 0} (h : List A → List B) (d : List A → Bool) (means : Before h d) where
  -- it decides nothing
  pub follows : (F : List B → List C) → Follows Before F undecided (λ xs. F (h xs)) d
  follows F = record { made = h; decides = d; was = means; makes = λ xs. refl; decided = λ xs. refl }

  pub follows-by : (Gives : B → Option C → Type 0) (by : B → Option C) → ((y : B) → Gives y (by y))
      → FollowsBy Gives Before keeping kept_open (λ xs. filter_map by (h xs)) d
  follows-by Gives by gives =
      record {
        by = by;
        gives = gives;
        follows = record { made = h; decides = d; was = means; makes = λ xs. refl; decided = λ xs. refl };
      }

module _ {Y : Type 0} where
  all-kept : (ys : List Y) → filter_map Some ys ≡ ys
  all-kept [] = refl
  all-kept (y ∷ ys) = ap (λ zs. y ∷ zs) (all-kept ys)

  module _ (p : Y → Bool) (ys : List Y) where
    pub left-passed : is_some (first_of (filter_map (λ y. passed p (Some y)) ys)) ≡ list_any p ys
    left-passed = any-passed Some p ys ∙ ap (list_any p) (all-kept ys)

    pub left-true : list_any (λ b. beq b true) (filter_map (λ y. selected p (Some y)) ys) ≡ list_any p ys
    left-true = any-true Some p ys ∙ ap (list_any p) (all-kept ys)

    pub left-false : list_any (λ b. beq b false) (filter_map (λ y. selected p (Some y)) ys) ≡ not (list_all p ys)
    left-false = any-false Some p ys ∙ ap (λ zs. not (list_all p zs)) (all-kept ys)
