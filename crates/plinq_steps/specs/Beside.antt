-- Items beside their positions, and beside those of a list.
use Rattle.std.specs.Prelude.{◌≡◌, refl, ℕ, zero, suc, ◌+◌, ◌-◌, ◌≤◌, ◌<◌, ◌^◌, min, Bool, true, false, ◌||◌, Option, Some, None}
use Rattle.std.specs.Prelude.{List, [], ◌∷◌, take, length}
use Rattle.std.specs.List.{zip}
use Rattle.std.proofs.Common.{sym, ◌∙◌, ap, arith, subst}
use Rattle.plinq_steps.specs.Means.{reaches, undecided, Follows, Turn, or_left, or_right, follows_at_end, follows_ended, follows_of_none}
use Rattle.plinq_steps.specs.Enough.{Brings, IsEnough}

-- ---- positions

-- the position after this one, which is a 64-bit number
abbrev pub after : ℕ → ℕ
after n = min (n + 1) (2 ^ 64 - 1)

module _ {T : Type 0} where
  -- each item beside its position, of which the first is this
  abbrev pub numbered : ℕ → List T → List (ℕ × T)
  numbered n [] = []
  numbered n (x ∷ xs) = (n, x) ∷ numbered (after n) xs

  -- the same with positions of any size
  abbrev pub counted_from : ℕ → List T → List (ℕ × T)
  counted_from n [] = []
  counted_from n (x ∷ xs) = (n, x) ∷ counted_from (n + 1) xs

  -- of a list that any source may give they are the same
  pub numbered_small : (n : ℕ) (xs : List T) → n + length xs < 2 ^ 64 → numbered n xs ≡ counted_from n xs
  numbered_small n [] small = refl
  numbered_small n (x ∷ xs) small =
      ap (λ m. (n, x) ∷ numbered m xs) (omega (arith, small)) ∙ ap (λ ys. (n, x) ∷ ys) (numbered_small (n + 1) xs (omega (arith, small)))

  abbrev pub numbered_one : ℕ → Option T → Option (ℕ × T)
  numbered_one n None = None
  numbered_one n (Some x) = Some (n, x)

  abbrev pub after_one : ℕ → Option T → ℕ
  after_one n None = n
  after_one n (Some x) = after n

  numbered_turn : (n : ℕ) (o : Option T) → Turn (numbered n) undecided o (numbered_one n o) (numbered (after_one n o)) undecided
  numbered_turn n None = record { makes = λ ys. refl; decided = λ ys. refl }
  numbered_turn n (Some x) = record { makes = λ ys. refl; decided = λ ys. refl }

  pub numbers_on : (n n' : ℕ) (r : Option (ℕ × T)) (o : Option T) → (r ≡ numbered_one n o) × (n' ≡ after_one n o)
      → Turn (numbered n) undecided o r (numbered n') undecided
  numbers_on n n' r o is =
      subst (λ m. Turn (numbered n) undecided o r (numbered m) undecided) (sym is.1)
      (subst (λ q. Turn (numbered n) undecided o q (numbered (after_one n o)) undecided) (sym is.0) (numbered_turn n o))

  pub numbered_few : (n : ℕ) (xs : List T) → length (numbered n xs) ≤ length xs
  numbered_few n [] = omega arith
  numbered_few n (x ∷ xs) = omega (arith, numbered_few (after n) xs)

  numbered_reaches : (count n : ℕ) (xs : List T) → reaches count (numbered n xs) ≡ reaches count xs
  numbered_reaches zero n xs = refl
  numbered_reaches (suc count) n [] = refl
  numbered_reaches (suc count) n (x ∷ xs) = numbered_reaches count (after n) xs

  numbered_take : (count n : ℕ) (xs : List T) → take count (numbered n xs) ≡ numbered n (take count xs)
  numbered_take zero n xs = refl
  numbered_take (suc count) n [] = refl
  numbered_take (suc count) n (x ∷ xs) = ap (λ ys. (n, x) ∷ ys) (numbered_take count (after n) xs)

module _ {A T : Type 0} {Before : (List A → List T) → (List A → Bool) → Type 0} where
  -- as many come as came before
  pub numbered_brings : (start count n : ℕ) → Brings Before count n → Brings (Follows Before (numbered start) undecided) count n
  numbered_brings start count n brings g d s xs few =
      let was = brings s.made s.decides s.was xs few in (
        ap (reaches count) (s.makes xs) ∙ numbered_reaches count start (s.made xs) ∙ was.0,
        ap (take count) (s.makes xs) ∙ numbered_take count start (s.made xs) ∙ ap (numbered start) was.1
            ∙ sym (numbered_take count start (s.made (take n xs))) ∙ sym (ap (take count) (s.makes (take n xs))),
      )

-- ---- the items of a list

-- there are none
abbrev pub is_none_left : {U : Type 0} → List U → Bool
is_none_left [] = true
is_none_left (u ∷ us) = false

module _ {T U : Type 0} where
  -- each item beside one of a list, up to the end of either
  abbrev pub paired : List U → List T → List (T × U)
  paired us xs = zip xs us

  abbrev pub covers : List U → List T → Bool
  covers us xs = reaches (length us) xs

  abbrev pub paired_one : List U → Option T → Option (T × U)
  paired_one us None = None
  paired_one [] (Some x) = None
  paired_one (u ∷ us) (Some x) = Some (x, u)

  abbrev pub unpaired : List U → Option T → List U
  unpaired us None = us
  unpaired [] (Some x) = []
  unpaired (u ∷ us) (Some x) = us

  paired_turn : (us : List U) (o : Option T) → is_none_left us ≡ false
      → Turn (paired us) (covers us) o (paired_one us o) (paired (unpaired us o)) (covers (unpaired us o))
  paired_turn us None some = record { makes = λ ys. refl; decided = λ ys. refl }
  paired_turn [] (Some x) some = absurd (cc)
  paired_turn (u ∷ us) (Some x) some = record { makes = λ ys. refl; decided = λ ys. refl }

  pub pairs_on : (us us' : List U) (eb : Bool) (r : Option (T × U)) → (is_none_left us || eb) ≡ false → (o : Option T)
      → (r ≡ paired_one us o) × (us' ≡ unpaired us o) → Turn (paired us) (covers us) o r (paired us') (covers us')
  pairs_on us us' eb r more o is =
      subst (λ vs. Turn (paired us) (covers us) o r (paired vs) (covers vs)) (sym is.1)
      (subst (λ q. Turn (paired us) (covers us) o q (paired (unpaired us o)) (covers (unpaired us o))) (sym is.0)
      (paired_turn us o (or_left (is_none_left us) eb more)))

  pub paired_few : (us : List U) (xs : List T) → length (paired us xs) ≤ length xs
  paired_few us [] = omega arith
  paired_few [] (x ∷ xs) = omega arith
  paired_few (u ∷ us) (x ∷ xs) = omega (arith, paired_few us xs)

  no_pairs : (xs : List T) → paired [] xs ≡ []
  no_pairs [] = refl
  no_pairs (x ∷ xs) = refl

  paired_first : (us : List U) (xs : List T) → paired us xs ≡ paired us (take (length us) xs)
  paired_first [] xs = no_pairs xs
  paired_first (u ∷ us) [] = refl
  paired_first (u ∷ us) (x ∷ xs) = ap (λ ps. (x, u) ∷ ps) (paired_first us xs)

open_of_pairs : (T : Type 0) {U : Type 0} (us : List U) (eb : Bool) → (is_none_left us || eb) ≡ false → covers {T = T} us [] ≡ false
open_of_pairs T [] eb more = absurd (cc)
open_of_pairs T (u ∷ us) eb more = refl

module _ {A T U : Type 0} (Before : (List A → List T) → (List A → Bool) → Type 0) (us : List U) where
  pub paired_at_end : (eb : Bool) → (is_none_left us || eb) ≡ true → (g : List A → List (T × U)) (d : List A → Bool)
      → Follows Before (paired us) (covers us) g d → (xs : List A)
      → (eb ≡ true → (h : List A → List T) (e : List A → Bool) → Before h e → (h xs ≡ []) × (e xs ≡ true)) → (g xs ≡ []) × (d xs ≡ true)
  paired_at_end eb ended g d s xs end = by_list us refl
    where
      by_list : (vs : List U) → us ≡ vs → (g xs ≡ []) × (d xs ≡ true)
      by_list [] is = follows_ended g d s (λ ys. ap (λ vs. paired vs ys) is ∙ no_pairs ys) (λ ys. ap (λ vs. covers vs ys) is) xs
      by_list (v ∷ vs) is = follows_at_end g d s refl xs (end (sym (ap (λ ws. is_none_left ws || eb) is) ∙ ended))

  pub paired_of_none : (eb : Bool) → (is_none_left us || eb) ≡ false → (g : List A → List (T × U)) (d : List A → Bool)
      → Follows Before (paired us) (covers us) g d
      → (eb ≡ false → (h : List A → List T) (e : List A → Bool) → Before h e → (h [] ≡ []) × (e [] ≡ false)) → (g [] ≡ []) × (d [] ≡ false)
  paired_of_none eb more g d s before = follows_of_none g d s refl (open_of_pairs T us eb more) (before (or_right (is_none_left us) eb more))

  -- items enough for the list
  pub paired_enough : (n : ℕ) → Brings Before (length us) n → IsEnough (Follows Before (paired us) (covers us)) n
  paired_enough n brings g d s xs few =
      let was = brings s.made s.decides s.was xs few in (
        s.makes xs ∙ paired_first us (s.made xs) ∙ ap (paired us) was.1 ∙ sym (paired_first us (s.made (take n xs))) ∙ sym (s.makes (take n xs)),
        s.decided xs ∙ ap (λ b. b || s.decides xs) was.0,
      )

-- ---- worked rows

-- the second has the position 1
both_numbered : numbered {T = ℕ} 0 (7 ∷ 8 ∷ []) ≡ (0, 7) ∷ (1, 8) ∷ []
both_numbered = refl

-- the third has no partner
two_of_three : paired {T = ℕ} {U = ℕ} (4 ∷ 5 ∷ []) (7 ∷ 8 ∷ 9 ∷ []) ≡ (7, 4) ∷ (8, 5) ∷ []
two_of_three = refl

-- and once the list is over, nothing more counts
over_after_two : covers {T = ℕ} {U = ℕ} (4 ∷ 5 ∷ []) (7 ∷ 8 ∷ []) ≡ true
over_after_two = refl
