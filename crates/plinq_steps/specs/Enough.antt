-- How many of the first items decide what steps make.
use Rattle.std.specs.Prelude.{◌≡◌, refl, ℕ, zero, suc, ◌+◌, ◌≤◌, Bool, true, false, ◌||◌, Option, Some, None, is_some, IfSome}
use Rattle.std.specs.Prelude.{List, [], ◌∷◌, take, drop, length}
use Rattle.std.proofs.Common.{sym, ◌∙◌, ap, arith, subst}
use Rattle.std.proofs.lemmas.List.{drop-take}
use Rattle.plinq_steps.specs.Makes.{MakesOf, GivesThen, Selects}
use Rattle.plinq_steps.specs.Means.{reaches, undecided, Follows, FollowsBy, Unchanged, or_true}

-- something is made of each item
abbrev pub KeepsAll : {A B : Type 0} → (A → Option B → Type 0) → Type 0
KeepsAll {A} {B} Makes = (x : A) (r : Option B) → Makes x r → is_some r ≡ true

module _ {A B : Type 0} (Means : (List A → List B) → (List A → Bool) → Type 0) where
  -- so many items are enough: of more the same is made, and that is decided
  abbrev pub IsEnough : ℕ → Type 0
  IsEnough n = (g : List A → List B) (d : List A → Bool) → Means g d → (xs : List A) → n ≤ length xs → (g xs ≡ g (take n xs)) × (d xs ≡ true)

  -- of so many items, `n`, as many are made as are asked for, and these are the first, whatever comes after them
  abbrev pub Brings : ℕ → ℕ → Type 0
  Brings count n = (g : List A → List B) (d : List A → Bool) → Means g d → (xs : List A) → n ≤ length xs
      → (reaches count (g xs) ≡ true) × (take count (g xs) ≡ take count (g (take n xs)))

-- ---- the laws

pub lifted : {P Q : ℕ → Type 0} (o : Option ℕ) → ((n : ℕ) → P n → Q n) → IfSome o P → IfSome o Q
lifted None all is = is
lifted (Some n) all is = all n is

module _ {B C : Type 0} where
  some_of : (Then : B → Option C → Type 0) → ((y : B) (r : Option C) → Then y r → is_some r ≡ true) → (o : Option B) → is_some o ≡ true → (r : Option C)
      → MakesOf Then o r → is_some r ≡ true
  some_of Then all None is r made = absurd (cc)
  some_of Then all (Some y) is r made = all y r made

module _ {A B C : Type 0} where
  -- a select keeps all that is kept before it
  pub selects_all : (Before : A → Option B → Type 0) (Gives : B → C → Type 0) → KeepsAll Before → KeepsAll (λ x r. GivesThen (Before x) (Selects Gives) r)
  selects_all Before Gives all x r given =
      some_of (Selects Gives) (λ y r is. ap is_some is.is) given.between (all x given.between given.was) r given.is

module _ {T : Type 0} where
  reaches_all : (n : ℕ) (xs : List T) → n ≤ length xs → reaches n xs ≡ true
  reaches_all zero xs few = refl
  reaches_all (suc n) [] few = absurd (omega (arith, few))
  reaches_all (suc n) (x ∷ xs) few = reaches_all n xs (omega (arith, few))

  take_twice : (n : ℕ) (xs : List T) → take n xs ≡ take n (take n xs)
  take_twice zero xs = refl
  take_twice (suc n) [] = refl
  take_twice (suc n) (x ∷ xs) = ap (λ ys. x ∷ ys) (take_twice n xs)

  reaches_behind : (k n m : ℕ) (xs : List T) → m ≡ k + n → reaches m xs ≡ true → reaches n (drop k xs) ≡ true
  reaches_behind zero n m xs sum is = subst (λ i. reaches i xs ≡ true) (omega (arith, sum)) is
  reaches_behind (suc k) n zero xs sum is = absurd (omega (arith, sum))
  reaches_behind (suc k) n (suc m) [] sum is = absurd (cc)
  reaches_behind (suc k) n (suc m) (x ∷ xs) sum is = reaches_behind k n m xs (omega (arith, sum)) is

  -- all items as they come
  pub unchanged_brings : (n : ℕ) → Brings {A = T} {B = T} Unchanged n n
  unchanged_brings n g d means xs few = (
    ap (reaches n) (means.0 xs) ∙ reaches_all n xs few,
    ap (take n) (means.0 xs) ∙ take_twice n xs ∙ sym (ap (take n) (means.0 (take n xs))),
  )

module _ {A B C : Type 0} {Before : (List A → List B) → (List A → Bool) → Type 0} where
  -- what was decided before stays so
  pub follows_enough : {F : List B → List C} {D : List B → Bool} (n : ℕ) → IsEnough Before n → IsEnough (Follows Before F D) n
  follows_enough {F} {D} n enough g d s xs few =
      let was = enough s.made s.decides s.was xs few in (
        s.makes xs ∙ ap F was.0 ∙ sym (s.makes (take n xs)),
        s.decided xs ∙ ap (λ b. D (s.made xs) || b) was.1 ∙ or_true (D (s.made xs)),
      )

  pub by_enough : {Y : Type 0} {Gives : B → Y → Type 0} {F : (B → Y) → List B → List C} {D : (B → Y) → List B → Bool} (n : ℕ) → IsEnough Before n
      → IsEnough (FollowsBy Gives Before F D) n
  by_enough n enough g d s xs few = follows_enough n enough g d s.follows xs few

module _ {A B : Type 0} {Before : (List A → List B) → (List A → Bool) → Type 0} where
  -- items enough for as many as are taken
  pub taken_enough : (left n : ℕ) → Brings Before left n → IsEnough (Follows Before (take left) (reaches left)) n
  taken_enough left n brings g d s xs few =
      let was = brings s.made s.decides s.was xs few in (
        s.makes xs ∙ was.1 ∙ sym (s.makes (take n xs)),
        s.decided xs ∙ ap (λ b. b || s.decides xs) was.0,
      )

  -- those that are skipped come before them
  pub skipped_brings : (left count all n : ℕ) → all ≡ left + count → Brings Before all n → Brings (Follows Before (drop left) undecided) count n
  skipped_brings left count all n sum brings g d s xs few =
      let was = brings s.made s.decides s.was xs few in
      let behind : (ys : List B) → drop left (take all ys) ≡ take count (drop left ys) =
      λ ys. ap (λ m. drop left (take m ys)) sum ∙ drop-take left count ys in (
        ap (reaches count) (s.makes xs) ∙ reaches_behind left count all (s.made xs) sum was.0,
        ap (take count) (s.makes xs) ∙ sym (behind (s.made xs)) ∙ ap (drop left) was.1 ∙ behind (s.made (take n xs))
            ∙ sym (ap (take count) (s.makes (take n xs))),
      )

-- ---- worked rows

-- two of all that come are two
two_of_two : Brings {A = ℕ} {B = ℕ} Unchanged 2 2
two_of_two = unchanged_brings 2

-- one item isn't enough for two
two_of_one : Brings {A = ℕ} {B = ℕ} Unchanged 2 1 → ⊥
two_of_one brings =
    absurd (let bad : ◌≡◌ {A = Bool} false true = (brings (λ xs. xs) undecided (λ xs. refl, λ xs. refl) (4 ∷ []) (omega arith)).0 in cc)

-- after the first is skipped, two of three
two_behind_one : Brings {A = ℕ} {B = ℕ} (Follows Unchanged (drop 1) undecided) 2 3
two_behind_one = skipped_brings 1 2 3 3 refl (unchanged_brings 3)
