-- How a list's weight changes with one of its elements.
use Rattle.std.proofs.Common.{◌≡◌, ◌≢◌, ℕ, zero, suc, ◌+◌, ◌≤◌, List, [], ◌∷◌, ◌++◌, length, set, sym, refl, ap, arith}
use mathlib.Core.Option.{some, some-injective, some-ne-none}
use lib.ListN.{get_elem?}
use Rattle.plinq_ticket.specs.Weights.{total}

module _ {A : Type 0} (f : A → ℕ) where
  pub total-append : (xs ys : List A) → total f (xs ++ ys) ≡ total f xs + total f ys
  total-append [] ys = omega arith
  total-append (x ∷ xs) ys = let e = total-append xs ys in omega arith

  pub total-set : (xs : List A) (i : ℕ) (a b : A) → get_elem? xs i ≡ some a → total f (set xs i b) + f a ≡ total f xs + f b
  total-set [] i a b e = absurd (some-ne-none a (sym e))
  total-set (x ∷ xs) zero a b e = let same : f x ≡ f a = ap f (some-injective x a e) in omega arith
  total-set (x ∷ xs) (suc i) a b e = let rest = total-set xs i a b e in omega arith

  pub total-at : (xs : List A) (i : ℕ) (a : A) → get_elem? xs i ≡ some a → f a ≤ total f xs
  total-at [] i a e = absurd (some-ne-none a (sym e))
  total-at (x ∷ xs) zero a e = let same : f x ≡ f a = ap f (some-injective x a e) in omega arith
  total-at (x ∷ xs) (suc i) a e = let rest = total-at xs i a e in omega arith

  pub total-two : (xs : List A) (i j : ℕ) (a b : A) → j ≢ i → get_elem? xs i ≡ some a → get_elem? xs j ≡ some b → f a + f b ≤ total f xs
  total-two [] i j a b n e d = absurd (some-ne-none a (sym e))
  total-two (x ∷ xs) zero zero a b n e d = absurd (n refl)
  total-two (x ∷ xs) zero (suc j) a b n e d = let same : f x ≡ f a = ap f (some-injective x a e) in let rest = total-at xs j b d in omega arith
  total-two (x ∷ xs) (suc i) zero a b n e d = let same : f x ≡ f b = ap f (some-injective x b d) in let rest = total-at xs i a e in omega arith
  total-two (x ∷ xs) (suc i) (suc j) a b n e d = let rest = total-two xs i j a b (λ h. n (ap suc h)) e d in omega arith

module _ {A : Type 0} (f g : A → ℕ) where
  pub total-most : (xs : List A) → ((j : ℕ) (b : A) → get_elem? xs j ≡ some b → f b ≤ g b) → total f xs ≤ total g xs
  total-most [] h = omega arith
  total-most (x ∷ xs) h = let here = h zero x refl in let rest = total-most xs (λ j b d. h (suc j) b d) in omega arith

  -- where each weighs at most as much, one that weighs less makes the whole less
  pub total-less : (xs : List A) (i : ℕ) (a : A) → ((j : ℕ) (b : A) → get_elem? xs j ≡ some b → f b ≤ g b) → get_elem? xs i ≡ some a
      → total f xs + g a ≤ total g xs + f a
  total-less [] i a least e = absurd (some-ne-none a (sym e))
  total-less (x ∷ xs) zero a least e =
      let sf : f x ≡ f a = ap f (some-injective x a e) in
      let sg : g x ≡ g a = ap g (some-injective x a e) in
      let rest = total-most xs (λ j b d. least (suc j) b d) in
      omega arith
  total-less (x ∷ xs) (suc i) a least e = let here = least zero x refl in let rest = total-less xs i a (λ j b d. least (suc j) b d) e in omega arith

pub total-ones : {A : Type 0} (xs : List A) → total (λ _. 1) xs ≡ length xs
total-ones [] = refl
total-ones (x ∷ xs) = let rest = total-ones xs in omega arith
