-- There is one list of the same items in ascending order in which ties stand as they came.
use Rattle.std.specs.Prelude.{◌≡◌, refl, ⊤, ℕ, suc, ◌<◌, ◌≤◌, List, [], ◌∷◌, length, drop, Bool, true, false, not, ◌&&◌, cond, filter, get_or}
use Rattle.std.specs.List.Sorted.{ties}
use Rattle.std.specs.Cmp.{IsTotalOrder, IsStrictWeakOrder}
use Rattle.std.specs.declared.cmp.Ordering.{Ordering}
use Rattle.std.proofs.Common.{arith, sym, ◌∙◌, ap, subst, true≢false}
use Rattle.std.proofs.lemmas.List.Sorted.{ranks_by, sorted_far}
use Rattle.plinq_sorted.specs.Orders.{IsOrderOf}

module _ {X : Type 0} where
  -- the first of a list, else this
  abbrev first_or : X → List X → X
  first_or d [] = d
  first_or d (x ∷ xs) = x

  -- what stands behind one that both lists have or leave out
  behind : (b : Bool) (y : X) (xs zs : List X) → cond b (y ∷ xs) xs ≡ cond b (y ∷ zs) zs → xs ≡ zs
  behind true y xs zs same = ap (drop 1) same
  behind false y xs zs same = same

both-ways : (a b : Bool) → not a && not b ≡ true → not b && not a ≡ true
both-ways false false is = refl
both-ways false true is = absurd (true≢false (sym is))
both-ways true b is = absurd (true≢false (sym is))

module _ {X : Type 0} (lt : X → X → Bool) (o : IsStrictWeakOrder lt) where
  -- none of these is less
  abbrev Above : X → List X → Type 0
  Above x [] = ⊤
  Above x (y ∷ ys) = (lt y x ≡ false) × Above x ys

  -- none is less than one before it
  abbrev Up : List X → Type 0
  Up [] = ⊤
  Up (x ∷ xs) = Above x xs × Up xs

  above-of : (x : X) (xs : List X) → ((k : ℕ) → k < length xs → lt (get_or xs k x) x ≡ false) → Above x xs
  above-of x [] none = tt
  above-of x (y ∷ ys) none = (none 0 (omega arith), above-of x ys (λ k p. none (suc k) (omega arith)))

  up-of : (xs : List X) → ((i j : ℕ) (d : X) → i ≤ j → j < length xs → lt (get_or xs j d) (get_or xs i d) ≡ false) → Up xs
  up-of [] far = tt
  up-of (x ∷ xs) far =
      (above-of x xs (λ k p. far 0 (suc k) x (omega arith) (omega arith)), up-of xs (λ i j d p q. far (suc i) (suc j) d (omega arith) (omega arith)))

  ties-self : (x : X) (b : Bool) → lt x x ≡ b → ties lt x x ≡ true
  ties-self x true is = absurd (true≢false (sym is ∙ o.one_way x x is))
  ties-self x false is = ap (λ b. not b && not b) is

  -- what a test leaves is of the list
  kept-at : (test : X → Bool) (z a b : X) (xs rest : List X) (t : Bool) → (filter test xs ≡ a ∷ rest → lt a z ≡ false) → lt b z ≡ false
      → cond t (b ∷ filter test xs) (filter test xs) ≡ a ∷ rest → lt a z ≡ false
  kept-at test z a b xs rest true later is same = subst (λ w. lt w z ≡ false) (ap (first_or b) same) is
  kept-at test z a b xs rest false later is same = later same

  kept : (test : X → Bool) (z a : X) (xs rest : List X) → Above z xs → filter test xs ≡ a ∷ rest → lt a z ≡ false
  kept test z a [] rest above same = absurd (omega (arith, ap length same))
  kept test z a (b ∷ xs) rest above same = kept-at test z a b xs rest (test b) (kept test z a xs rest above.1) above.0 same

  -- one that ties with itself stands first, and so it is among the others if these begin with another
  among : (y z : X) (ys zs : List X) → Above z zs → filter (ties lt y) (y ∷ ys) ≡ filter (ties lt y) (z ∷ zs) → ties lt y z ≡ false → lt y z ≡ false
  among y z ys zs above same apart =
      let left : y ∷ filter (ties lt y) ys ≡ filter (ties lt y) zs =
      sym (ap (λ b. cond b (y ∷ filter (ties lt y) ys) (filter (ties lt y) ys)) (ties-self y (lt y y) refl))
      ∙ same ∙ ap (λ b. cond b (z ∷ filter (ties lt y) zs) (filter (ties lt y) zs)) apart in
      kept (ties lt y) z y zs (filter (ties lt y) ys) above (sym left)

  heads-tie : (y z : X) (ys zs : List X) → Above y ys → Above z zs
      → ((x : X) → filter (ties lt x) (y ∷ ys) ≡ filter (ties lt x) (z ∷ zs))
      → (s : Bool) → ties lt y z ≡ s → (t : Bool) → ties lt z y ≡ t → ties lt y z ≡ true
  heads-tie y z ys zs above-y above-z same true is t is' = is
  heads-tie y z ys zs above-y above-z same false is true is' = both-ways (lt z y) (lt y z) is'
  heads-tie y z ys zs above-y above-z same false is false is' =
      ap (λ b. not b && not (lt z y)) (among y z ys zs above-z (same y) is)
      ∙ ap (λ b. not false && not b) (among z y zs ys above-y (sym (same z)) is')

  same-heads : (y z : X) (ys zs : List X) → filter (ties lt y) (y ∷ ys) ≡ filter (ties lt y) (z ∷ zs) → ties lt y z ≡ true → y ≡ z
  same-heads y z ys zs same tie =
      let both : y ∷ filter (ties lt y) ys ≡ z ∷ filter (ties lt y) zs =
      sym (ap (λ b. cond b (y ∷ filter (ties lt y) ys) (filter (ties lt y) ys)) (ties-self y (lt y y) refl))
      ∙ same ∙ ap (λ b. cond b (z ∷ filter (ties lt y) zs) (filter (ties lt y) zs)) tie in
      ap (first_or y) both

  one-list : (ys zs : List X) → Up ys → Up zs → ((x : X) → filter (ties lt x) ys ≡ filter (ties lt x) zs) → ys ≡ zs
  one-list [] [] up up' same = refl
  one-list [] (z ∷ zs) up up' same =
      absurd (omega (arith, ap length (same z ∙ ap (λ b. cond b (z ∷ filter (ties lt z) zs) (filter (ties lt z) zs)) (ties-self z (lt z z) refl))))
  one-list (y ∷ ys) [] up up' same =
      absurd (omega (arith, ap length (sym (same y) ∙ ap (λ b. cond b (y ∷ filter (ties lt y) ys) (filter (ties lt y) ys)) (ties-self y (lt y y) refl))))
  one-list (y ∷ ys) (z ∷ zs) up up' same =
      let is : y ≡ z = same-heads y z ys zs (same y) (heads-tie y z ys zs up.0 up'.0 same (ties lt y z) refl (ties lt z y) refl) in
      let rest : (x : X) → filter (ties lt x) ys ≡ filter (ties lt x) zs = λ x. behind (ties lt x y) y (filter (ties lt x) ys) (filter (ties lt x) zs)
      (same x ∙ ap (λ w. filter (ties lt x) (w ∷ zs)) (sym is)) in
      ap (λ w. w ∷ ys) is ∙ ap (λ l. z ∷ l) (one-list ys zs up.1 up'.1 rest)

pub one-order : {T K : Type 0} (rank : T → K) (cmp : K → K → Ordering) → IsTotalOrder cmp → (xs ys zs : List T) → IsOrderOf rank cmp xs ys
    → IsOrderOf rank cmp xs zs → ys ≡ zs
one-order rank cmp total xs ys zs first second =
    let o = ranks_by total rank in
    one-list _ o ys zs (up-of _ o ys (sorted_far _ o ys first.ascends)) (up-of _ o zs (sorted_far _ o zs second.ascends))
    (λ x. first.stable x ∙ sym (second.stable x))
