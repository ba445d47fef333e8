-- What has a name.
use Rattle.std.specs.Prelude.{◌≡◌, refl, ℕ, List, [], ◌∷◌, Option, Some, None, if◌then◌else◌}
use Rattle.std.specs.Str.{bytes_eq}

-- the first of some that has this name
abbrev pub first_named : {A : Type 0} → (A → List ℕ) → List A → List ℕ → Option A
first_named name [] word = None
first_named name (x ∷ xs) word = if bytes_eq word (name x) then Some x else first_named name xs word

-- rows

abbrev example_name : ℕ → List ℕ
example_name n = n ∷ n ∷ []

found_by_its_name : first_named example_name (7 ∷ 8 ∷ []) (8 ∷ 8 ∷ []) ≡ Some 8
found_by_its_name = refl

the_first_of_a_name : first_named {A = ℕ} (λ n. 8 ∷ []) (7 ∷ 8 ∷ []) (8 ∷ []) ≡ Some 7
the_first_of_a_name = refl

a_beginning_of_a_name_is_none : first_named example_name (7 ∷ 8 ∷ []) (8 ∷ []) ≡ None
a_beginning_of_a_name_is_none = refl
