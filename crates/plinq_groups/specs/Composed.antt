-- Two steps on each item, one after the other.
use Rattle.std.specs.Prelude.{◌≡◌, refl, ℕ, ◌+◌, ◌==◌, if◌then◌else◌, List, [], ◌∷◌, Option, Some, None, Result, Ok, Err}
use Rattle.std.proofs.Common.{ap, ◌∙◌}
use Rattle.plinq_groups.specs.Mapping.{mapped_items, before_made}

-- what a second step makes of what a first one made of an item
abbrev pub then_made : {B C : Type 0} → Result (Option B) ℕ → (B → Result (Option C) ℕ) → Result (Option C) ℕ
then_made (Ok None) second = Ok None
then_made (Ok (Some y)) second = second y
then_made (Err code) second = Err code

-- what a second pass made, and its code; else that of the first pass, which ended earlier in the list if it has one
abbrev pub after_pass : {C : Type 0} → List C → Option ℕ → Option ℕ → List C × Option ℕ
after_pass zs (Some code) first = (zs, Some code)
after_pass zs None first = (zs, first)

module _ {A B C : Type 0} (first : A → Result (Option B) ℕ) (second : B → Result (Option C) ℕ) where
  before-pass : (r : Result (Option C) ℕ) (zs : List C) (e e' : Option ℕ)
      → before_made second r (after_pass zs e e') ≡ after_pass (before_made second r (zs, e)).0 (before_made second r (zs, e)).1 e'
  before-pass (Ok None) zs e e' = refl
  before-pass (Ok (Some z)) zs None e' = refl
  before-pass (Ok (Some z)) zs (Some code) e' = refl
  before-pass (Err code) zs e e' = refl

  -- two steps on each item make what two passes make, the second over what the first has made
  abbrev pub two_passes : List A → List C × Option ℕ
  two_passes xs = after_pass (mapped_items second (mapped_items first xs).0).0 (mapped_items second (mapped_items first xs).0).1 (mapped_items first xs).1

  composed-at : (r : Result (Option B) ℕ) (ys : List B) (e : Option ℕ) (rest : List C × Option ℕ)
      → rest ≡ after_pass (mapped_items second ys).0 (mapped_items second ys).1 e
      → before_made (λ x. then_made (first x) second) (then_made r second) rest
      ≡ after_pass (mapped_items second (before_made first r (ys, e)).0).0 (mapped_items second (before_made first r (ys, e)).0).1
      (before_made first r (ys, e)).1
  composed-at (Ok None) ys e rest is = is
  composed-at (Ok (Some y)) ys e rest is =
      ap (before_made (λ x. then_made (first x) second) (second y)) is
      ∙ before-pass (second y) (mapped_items second ys).0 (mapped_items second ys).1 e
  composed-at (Err code) ys e rest is = refl

  pub mapped_items-composed : (xs : List A) → mapped_items (λ x. then_made (first x) second) xs ≡ two_passes xs
  mapped_items-composed [] = refl
  mapped_items-composed (x ∷ xs) = composed-at (first x) (mapped_items first xs).0 (mapped_items first xs).1
      (mapped_items (λ x. then_made (first x) second) xs) (mapped_items-composed xs)

-- ---- worked rows

-- all but 5, and a fault at 3
abbrev but_five : ℕ → Result (Option ℕ) ℕ
but_five n = if n == 3 then Err 7 else (if n == 5 then Ok None else Ok (Some n))

abbrev one_more : ℕ → Result (Option ℕ) ℕ
one_more n = if n == 9 then Err 8 else Ok (Some (n + 1))

both_are_done : mapped_items (λ x. then_made (but_five x) one_more) (1 ∷ 5 ∷ 2 ∷ []) ≡ (2 ∷ 3 ∷ [], None)
both_are_done = refl

-- the fault of the item that comes first, of whichever step
the_second_faults_first : mapped_items (λ x. then_made (but_five x) one_more) (1 ∷ 9 ∷ 3 ∷ []) ≡ (2 ∷ [], Some 8)
the_second_faults_first = refl
