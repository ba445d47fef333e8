-- What is found by a name has it.
use Rattle.std.specs.Prelude.{◌≡◌, ℕ, List, [], ◌∷◌, Bool, true, false, Some, ⊤, if◌then◌else◌, refl}
use Rattle.std.specs.Str.{bytes_eq}
use Rattle.std.proofs.Common.{ap, ◌∙◌, subst}
use Rattle.std.proofs.lemmas.Slice.Eq.{bytes_eq-Decides}
use Rattle.plinq_words.specs.Named.{first_named}

-- what each of them has
abbrev pub Each : {A : Type 0} → (A → Type 0) → List A → Type 0
Each P [] = ⊤
Each P (x ∷ xs) = P x × Each P xs

-- it has the name, and what each of them has
pub first_named-has : {A : Type 0} (P : A → Type 0) (name : A → List ℕ) (xs : List A) (word : List ℕ) (x : A) → Each P xs → first_named name xs word ≡ Some x
    → (word ≡ name x) × P x
first_named-has P name [] word x all is = cc
first_named-has {A = A} P name (y ∷ ys) word x all is = go (bytes_eq word (name y)) refl (first_named-has P name ys word x all.1) is
  where
    go : (b : Bool) → bytes_eq word (name y) ≡ b → (first_named name ys word ≡ Some x → (word ≡ name x) × P x)
        → (if b then Some y else first_named name ys word) ≡ Some x → (word ≡ name x) × P x
    go true e further found =
        let same : y ≡ x = cc in
        ((bytes_eq-Decides word (name y)).0 e ∙ ap name same, subst P same all.0)
    go false e further found = further found
