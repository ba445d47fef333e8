-- Foldings that are lawful by one step: combining after an item is taking the item in after combining.
use Rattle.std.specs.Prelude.{◌≡◌, refl, List, [], ◌∷◌}
use Rattle.std.specs.List.{fold}
use Rattle.std.proofs.Common.{sym, ◌∙◌, ap}
use Rattle.std.proofs.lemmas.List.Sums.{fold-append}
use Rattle.plinq_aggregate.specs.Folding.{Folding, fold_of, IsFolding}

module _ {T A O : Type 0} (f : Folding T A O) where
  -- an item that the second has taken in may as well be taken in by both
  abbrev pub TakesAfter : Type 0
  TakesAfter = (a b : A) (x : T) → f.combine a (f.update b x) ≡ f.update (f.combine a b) x

  -- the seed after an accumulator adds nothing
  abbrev pub EndsInSeed : Type 0
  EndsInSeed = (a : A) → f.combine a f.seed ≡ a

  through : TakesAfter → (a b : A) (xs : List T) → f.combine a (fold f.update b xs) ≡ fold f.update (f.combine a b) xs
  through takes a b [] = refl
  through takes a b (x ∷ xs) = through takes a (f.update b x) xs ∙ ap (λ c. fold f.update c xs) (takes a b x)

  pub acting-lawful : TakesAfter → EndsInSeed → IsFolding f
  acting-lawful takes ends =
      record {
        joins = λ xs ys. through takes (fold_of f xs) f.seed ys ∙ ap (λ a. fold f.update a ys) (ends (fold_of f xs)) ∙ sym (fold-append f.update f.seed xs ys);
        neutral = λ xs. through takes f.seed f.seed xs ∙ ap (λ a. fold f.update a xs) (ends f.seed);
      }
