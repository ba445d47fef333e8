-- The line of some items, taken apart at its first item.
use Rattle.std.proofs.Common.{◌≡◌, ℕ, List, [], ◌∷◌, ◌++◌, length, ap, ◌∙◌, append_assoc}
use Rattle.std.specs.List.{flat_map}
use Rattle.std.proofs.lemmas.List.{nil_from_length}
use Rattle.plinq_lines.specs.AnswerText.{line}

pub line-first : {X : Type 0} (f : X → List ℕ) (xs : List X) (x : X) (further : List X) → xs ≡ x ∷ further
    → line (flat_map f xs) ≡ f x ++ line (flat_map f further)
line-first f xs x further is = ap (λ ys. line (flat_map f ys)) is ∙ append_assoc (f x) (flat_map f further) (10 ∷ [])

pub line-none : {X : Type 0} (f : X → List ℕ) (xs : List X) → length xs ≡ 0 → line (flat_map f xs) ≡ 10 ∷ []
line-none f xs none = ap (λ ys. line (flat_map f ys)) (nil_from_length xs none)
