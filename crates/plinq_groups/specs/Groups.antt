-- Groups: a key each, with what stands at it, in the order in which their keys came first.
use Rattle.std.specs.Prelude.{◌≡◌, refl, ◌+◌, ◌%◌, nat_eq, Bool, cond, List, [], ◌∷◌}
use Rattle.std.specs.List.{fold}
use Rattle.plinq_aggregate.specs.Folding.{Folding, fold_of}

-- the group of this key is changed, or a new one stands last where there is none
abbrev pub placed_groups : {K A : Type 0} → (K → K → Bool) → K → A → (A → A) → List (K × A) → List (K × A)
placed_groups eq k new change [] = (k, new) ∷ []
placed_groups eq k new change (g ∷ gs) = cond (eq k g.0) ((g.0, change g.1) ∷ gs) (g ∷ placed_groups eq k new change gs)

module _ {K T A O : Type 0} (eq : K → K → Bool) (key : T → K) (f : Folding T A O) where
  -- the groups after one item more: the group of its key takes it in
  abbrev pub with_item : List (K × A) → T → List (K × A)
  with_item gs x = placed_groups eq (key x) (f.update f.seed x) (λ a. f.update a x) gs

  -- the groups after the group of later items: it is combined with the one of its key
  abbrev pub with_group : List (K × A) → K × A → List (K × A)
  with_group gs h = placed_groups eq h.0 h.1 (λ a. f.combine a h.1) gs

  -- items into the groups of their keys, each folded apart
  abbrev pub grouping : Folding T (List (K × A)) (List (K × A))
  grouping = record { seed = []; update = with_item; combine = λ gs hs. fold with_group gs hs; tell = λ gs. gs }

-- ---- worked rows

-- numbers are counted by their remainder; the first of them decides which group stands first
remainders_are_counted : fold_of (grouping nat_eq (λ x. x % 3) (record { seed = 0; update = λ n x. n + 1; combine = λ a b. a + b; tell = λ n. n }))
    (5 ∷ 3 ∷ 8 ∷ 4 ∷ []) ≡ (2, 2) ∷ (0, 1) ∷ (1, 1) ∷ []
remainders_are_counted = refl
