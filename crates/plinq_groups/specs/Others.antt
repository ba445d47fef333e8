-- Foldings made of others: of a field of the items, and two at once.
use Rattle.std.specs.Prelude.{◌≡◌, refl, List, [], ◌∷◌, ◌++◌, map}
use Rattle.std.specs.List.{fold}
use Rattle.std.proofs.Common.{sym, ◌∙◌, ap}
use Rattle.std.proofs.lemmas.List.{map-append}
use Rattle.plinq_aggregate.specs.Folding.{Folding, fold_of, IsFolding}

-- what is taken in is a field of each item
abbrev pub of_field : {T U A O : Type 0} → (T → U) → Folding U A O → Folding T A O
of_field field f = record { seed = f.seed; update = λ a x. f.update a (field x); combine = f.combine; tell = f.tell }

-- two foldings of the same items
abbrev pub of_both : {T A O B P : Type 0} → Folding T A O → Folding T B P → Folding T (A × B) (O × P)
of_both f g = record {
  seed = (f.seed, g.seed);
  update = λ c x. (f.update c.0 x, g.update c.1 x);
  combine = λ c d. (f.combine c.0 d.0, g.combine c.1 d.1);
  tell = λ c. (f.tell c.0, g.tell c.1);
}

module _ {T U A O : Type 0} (field : T → U) (f : Folding U A O) where
  field-from : (a : A) (xs : List T) → fold (of_field field f).update a xs ≡ fold f.update a (map field xs)
  field-from a [] = refl
  field-from a (x ∷ xs) = field-from (f.update a (field x)) xs

  -- the fold of the fields
  pub fold_of-field : (xs : List T) → fold_of (of_field field f) xs ≡ fold_of f (map field xs)
  fold_of-field xs = field-from f.seed xs

  pub of_field-lawful : IsFolding f → IsFolding (of_field field f)
  of_field-lawful lawful =
      record {
        joins = λ xs ys. ap (λ a. f.combine a (fold_of (of_field field f) ys)) (fold_of-field xs)
            ∙ ap (λ a. f.combine (fold_of f (map field xs)) a) (fold_of-field ys)
            ∙ lawful.joins (map field xs) (map field ys)
            ∙ ap (fold_of f) (sym (map-append field xs ys))
            ∙ sym (fold_of-field (xs ++ ys));
        neutral = λ xs. ap (λ a. f.combine f.seed a) (fold_of-field xs) ∙ lawful.neutral (map field xs) ∙ sym (fold_of-field xs);
      }

module _ {T A O B P : Type 0} (f : Folding T A O) (g : Folding T B P) where
  both-from : (a : A) (b : B) (xs : List T) → fold (of_both f g).update (a, b) xs ≡ (fold f.update a xs, fold g.update b xs)
  both-from a b [] = refl
  both-from a b (x ∷ xs) = both-from (f.update a x) (g.update b x) xs

  -- the fold of the one, and of the other
  pub fold_of-both : (xs : List T) → fold_of (of_both f g) xs ≡ (fold_of f xs, fold_of g xs)
  fold_of-both xs = both-from f.seed g.seed xs

  pub of_both-lawful : IsFolding f → IsFolding g → IsFolding (of_both f g)
  of_both-lawful first second =
      record {
        joins = λ xs ys. ap (λ c. (of_both f g).combine c (fold_of (of_both f g) ys)) (fold_of-both xs)
            ∙ ap (λ c. (of_both f g).combine (fold_of f xs, fold_of g xs) c) (fold_of-both ys)
            ∙ ap (λ a. (a, g.combine (fold_of g xs) (fold_of g ys))) (first.joins xs ys)
            ∙ ap (λ b. (fold_of f (xs ++ ys), b)) (second.joins xs ys)
            ∙ sym (fold_of-both (xs ++ ys));
        neutral = λ xs. ap (λ c. (of_both f g).combine (f.seed, g.seed) c) (fold_of-both xs)
            ∙ ap (λ a. (a, g.combine g.seed (fold_of g xs))) (first.neutral xs)
            ∙ ap (λ b. (fold_of f xs, b)) (second.neutral xs)
            ∙ sym (fold_of-both xs);
      }
