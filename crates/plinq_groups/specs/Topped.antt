-- The items of the greatest ranks: the greatest first, and of several that are equal the earlier ones first.
use Rattle.std.specs.Prelude.{◌≡◌, refl, ℕ, zero, suc, ◌+◌, Bool, true, false, cond, ⊤, List, [], ◌∷◌, ◌++◌, take}
use Rattle.std.specs.List.{fold}
use Rattle.std.specs.Cmp.{IsTotalOrder}
use Rattle.std.specs.Ordering.{ordering_reverse, is_lt}
use Rattle.std.specs.declared.cmp.Ordering.{Ordering}
use Rattle.std.specs.declared.cmp.Ordering.TheVariants.{Less}
use Rattle.std.proofs.Common.{sym, ◌∙◌, ap, subst, arith, true≢false}
use Rattle.std.proofs.lemmas.List.Sums.{fold-append}
use Rattle.plinq_aggregate.specs.Folding.{Folding, fold_of, IsFolding}
use Rattle.plinq_groups.specs.Ranked.{less-between, less-is}

module _ {T K : Type 0} (rank : T → K) (cmp : K → K → Ordering) where
  -- whether the first is of the lesser rank
  abbrev pub is_lesser : T → T → Bool
  is_lesser a b = is_lt (cmp (rank a) (rank b))

  -- with one item more, before the first that is of a lesser rank
  abbrev pub with_ranked : List T → T → List T
  with_ranked [] x = x ∷ []
  with_ranked (y ∷ ys) x = cond (is_lesser y x) (x ∷ y ∷ ys) (y ∷ with_ranked ys x)

  -- .NET's OrderByDescending
  abbrev pub ranked_items : List T → List T
  ranked_items xs = fold with_ranked [] xs

  -- the first of them with one item more
  abbrev pub with_top : ℕ → List T → T → List T
  with_top n ys x = take n (with_ranked ys x)

  abbrev pub topping : ℕ → Folding T (List T) (List T)
  topping n = record { seed = []; update = with_top n; combine = λ ys zs. fold (with_top n) ys zs; tell = λ ys. ys }

  -- ---- what is cut off changes nothing

  take-take-cons : (n : ℕ) (z : T) (zs : List T) → take n (z ∷ take n zs) ≡ take n (z ∷ zs)
  take-take-cons zero z zs = refl
  take-take-cons (suc n) z [] = refl
  take-take-cons (suc n) z (y ∷ ys) = ap (λ l. z ∷ l) (take-take-cons n y ys)

  cut-here : (n : ℕ) (z : T) (zs : List T) (x : T) → take n (with_ranked (take n zs) x) ≡ take n (with_ranked zs x)
      → (b : Bool) → is_lesser z x ≡ b → take (suc n) (with_ranked (z ∷ take n zs) x) ≡ take (suc n) (with_ranked (z ∷ zs) x)
  cut-here n z zs x rest true is =
      ap (λ b. take (suc n) (cond b (x ∷ z ∷ take n zs) (z ∷ with_ranked (take n zs) x))) is
      ∙ ap (λ l. x ∷ l) (take-take-cons n z zs)
      ∙ sym (ap (λ b. take (suc n) (cond b (x ∷ z ∷ zs) (z ∷ with_ranked zs x))) is)
  cut-here n z zs x rest false is =
      ap (λ b. take (suc n) (cond b (x ∷ z ∷ take n zs) (z ∷ with_ranked (take n zs) x))) is
      ∙ ap (λ l. z ∷ l) rest
      ∙ sym (ap (λ b. take (suc n) (cond b (x ∷ z ∷ zs) (z ∷ with_ranked zs x))) is)

  cut-with : (n : ℕ) (zs : List T) (x : T) → take n (with_ranked (take n zs) x) ≡ take n (with_ranked zs x)
  cut-with zero zs x = refl
  cut-with (suc n) [] x = refl
  cut-with (suc n) (z ∷ zs) x = cut-here n z zs x (cut-with n zs x) (is_lesser z x) refl

  cut-all : (n : ℕ) (zs xs : List T) → fold (with_top n) (take n zs) xs ≡ take n (fold with_ranked zs xs)
  cut-all n zs [] = refl
  cut-all n zs (x ∷ xs) = ap (λ l. fold (with_top n) l xs) (cut-with n zs x) ∙ cut-all n (with_ranked zs x) xs

  take-nil : (n : ℕ) → take {A = T} n [] ≡ []
  take-nil zero = refl
  take-nil (suc n) = refl

  -- the first of all that are ranked
  pub fold_of-top : (n : ℕ) (xs : List T) → fold_of (topping n) xs ≡ take n (ranked_items xs)
  fold_of-top n xs = ap (λ l. fold (with_top n) l xs) (sym (take-nil n)) ∙ cut-all n [] xs

  -- ---- those that were ranked apart

  pub with-here : (y : T) (ys : List T) (x : T) → is_lesser y x ≡ true → with_ranked (y ∷ ys) x ≡ x ∷ y ∷ ys
  with-here y ys x is = ap (λ b. cond b (x ∷ y ∷ ys) (y ∷ with_ranked ys x)) is

  pub with-later : (y : T) (ys : List T) (x : T) → is_lesser y x ≡ false → with_ranked (y ∷ ys) x ≡ y ∷ with_ranked ys x
  with-later y ys x is = ap (λ b. cond b (x ∷ y ∷ ys) (y ∷ with_ranked ys x)) is

  -- none of these is of a greater rank
  abbrev AreWithin : T → List T → Type 0
  AreWithin x [] = ⊤
  AreWithin x (y ∷ ys) = (is_lesser x y ≡ false) × AreWithin x ys

  abbrev AreBelow : T → List T → Type 0
  AreBelow x [] = ⊤
  AreBelow x (y ∷ ys) = (is_lesser y x ≡ true) × AreBelow x ys

  abbrev AreRanked : List T → Type 0
  AreRanked [] = ⊤
  AreRanked (y ∷ ys) = AreWithin y ys × AreRanked ys

  -- so many of the first are of no lesser rank
  abbrev Leads : ℕ → T → List T → Type 0
  Leads zero x ys = ⊤
  Leads (suc k) x [] = ⊥
  Leads (suc k) x (y ∷ ys) = (is_lesser y x ≡ false) × Leads k x ys

  abbrev LeadAll : ℕ → List T → List T → Type 0
  LeadAll k ys [] = ⊤
  LeadAll k ys (x ∷ xs) = Leads k x ys × LeadAll k ys xs

  module _ (total : IsTotalOrder cmp) where
    lt-is : (a b : T) → is_lesser a b ≡ true → cmp (rank a) (rank b) ≡ Less
    lt-is a b is = less-is rank cmp total (cmp (rank a) (rank b)) is

    trans : (a b c : T) → is_lesser a b ≡ true → is_lesser b c ≡ true → is_lesser a c ≡ true
    trans a b c first second = ap is_lt (total.trans (rank a) (rank b) (rank c) (lt-is a b first) (lt-is b c second))

    -- of two one at most is the lesser
    apart : (a b : T) → is_lesser a b ≡ true → is_lesser b a ≡ false
    apart a b is = ap is_lt (total.antisymm (rank b) (rank a) ∙ ap ordering_reverse (lt-is a b is))

    -- what isn't less than a greater one is greater than the lesser
    between : (a b c : T) → is_lesser c a ≡ true → is_lesser b a ≡ false → is_lesser c b ≡ true
    between a b c below within = less-between rank cmp total (rank a) (rank b) (rank c) (lt-is c a below) within (cmp (rank c) (rank b)) refl

    back-at : (a b c : T) → is_lesser a b ≡ false → is_lesser b c ≡ false → (p : Bool) → is_lesser a c ≡ p → is_lesser a c ≡ false
    back-at a b c first second true is = absurd (true≢false (sym (between c b a is second) ∙ first))
    back-at a b c first second false is = is

    back : (a b c : T) → is_lesser a b ≡ false → is_lesser b c ≡ false → is_lesser a c ≡ false
    back a b c first second = back-at a b c first second (is_lesser a c) refl

    below-at : (w y x : T) → is_lesser y w ≡ false → is_lesser y x ≡ true → (p : Bool) → is_lesser w x ≡ p → is_lesser w x ≡ true
    below-at w y x within below true is = is
    below-at w y x within below false is = absurd (true≢false (sym (between x w y below is) ∙ within))

    below-all : (x y : T) (ws : List T) → is_lesser y x ≡ true → AreWithin y ws → AreBelow x ws
    below-all x y [] below within = tt
    below-all x y (w ∷ ws) below within = (below-at w y x within.0 below (is_lesser w x) refl, below-all x y ws below within.1)

    within-all : (x : T) (ws : List T) → AreBelow x ws → AreWithin x ws
    within-all x [] below = tt
    within-all x (w ∷ ws) below = (apart w x below.0, within-all x ws below.1)

    -- two of different ranks, in either order
    swap-at : (a : T) (before : List T) (x y : T) → is_lesser y x ≡ true → with_ranked (with_ranked before x) y ≡ with_ranked (with_ranked before y) x
        → (p : Bool) → is_lesser a x ≡ p → (q : Bool) → is_lesser a y ≡ q
        → with_ranked (with_ranked (a ∷ before) x) y ≡ with_ranked (with_ranked (a ∷ before) y) x
    swap-at a before x y less rest true p true q =
        ap (λ l. with_ranked l y) (with-here a before x p)
        ∙ with-later x (a ∷ before) y (apart y x less)
        ∙ ap (λ l. x ∷ l) (with-here a before y q)
        ∙ sym (ap (λ l. with_ranked l x) (with-here a before y q) ∙ with-here y (a ∷ before) x less)
    swap-at a before x y less rest true p false q =
        ap (λ l. with_ranked l y) (with-here a before x p)
        ∙ with-later x (a ∷ before) y (apart y x less)
        ∙ ap (λ l. x ∷ l) (with-later a before y q)
        ∙ sym (ap (λ l. with_ranked l x) (with-later a before y q) ∙ with-here a (with_ranked before y) x p)
    swap-at a before x y less rest false p true q = absurd (true≢false (sym (trans a y x q less) ∙ p))
    swap-at a before x y less rest false p false q =
        ap (λ l. with_ranked l y) (with-later a before x p)
        ∙ with-later a (with_ranked before x) y q
        ∙ ap (λ l. a ∷ l) rest
        ∙ sym (ap (λ l. with_ranked l x) (with-later a before y q) ∙ with-later a (with_ranked before y) x p)

    swap : (before : List T) (x y : T) → is_lesser y x ≡ true → with_ranked (with_ranked before x) y ≡ with_ranked (with_ranked before y) x
    swap [] x y less = with-later x [] y (apart y x less) ∙ sym (with-here y [] x less)
    swap (a ∷ before) x y less = swap-at a before x y less (swap before x y less) (is_lesser a x) refl (is_lesser a y) refl

    passes : (ws before : List T) (z : T) → AreBelow z ws → fold with_ranked (with_ranked before z) ws ≡ with_ranked (fold with_ranked before ws) z
    passes [] before z below = refl
    passes (w ∷ ws) before z below = ap (λ l. fold with_ranked l ws) (swap before z w below.0) ∙ passes ws (with_ranked before w) z below.1

    through-at : (y : T) (ys before : List T) (z : T) → AreRanked (y ∷ ys)
        → fold with_ranked (with_ranked before y) (with_ranked ys z) ≡ with_ranked (fold with_ranked (with_ranked before y) ys) z
        → (p : Bool) → is_lesser y z ≡ p → fold with_ranked before (with_ranked (y ∷ ys) z) ≡ with_ranked (fold with_ranked before (y ∷ ys)) z
    through-at y ys before z are rest true is =
        ap (fold with_ranked before) (with-here y ys z is) ∙ passes (y ∷ ys) before z (is, below-all z y ys is are.0)
    through-at y ys before z are rest false is = ap (fold with_ranked before) (with-later y ys z is) ∙ rest

    -- all of these and one more
    through : (zs before : List T) (z : T) → AreRanked zs → fold with_ranked before (with_ranked zs z) ≡ with_ranked (fold with_ranked before zs) z
    through [] before z are = refl
    through (y ∷ ys) before z are = through-at y ys before z are (through ys (with_ranked before y) z are.1) (is_lesser y z) refl

    within-with-at : (k y : T) (ys : List T) (x : T) → AreWithin k (y ∷ ys) → is_lesser k x ≡ false → AreWithin k (with_ranked ys x) → (p : Bool)
        → is_lesser y x ≡ p → AreWithin k (with_ranked (y ∷ ys) x)
    within-with-at k y ys x within one rest true is = subst (AreWithin k) (sym (with-here y ys x is)) (one, within)
    within-with-at k y ys x within one rest false is = subst (AreWithin k) (sym (with-later y ys x is)) (within.0, rest)

    within-with : (k : T) (ys : List T) (x : T) → AreWithin k ys → is_lesser k x ≡ false → AreWithin k (with_ranked ys x)
    within-with k [] x within one = (one, tt)
    within-with k (y ∷ ys) x within one = within-with-at k y ys x within one (within-with k ys x within.1 one) (is_lesser y x) refl

    ranked-with-at : (y : T) (ys : List T) (x : T) → AreRanked (y ∷ ys) → AreRanked (with_ranked ys x) → (p : Bool) → is_lesser y x ≡ p
        → AreRanked (with_ranked (y ∷ ys) x)
    ranked-with-at y ys x are rest true is =
        subst AreRanked (sym (with-here y ys x is)) (within-all x (y ∷ ys) (is, below-all x y ys is are.0), are)
    ranked-with-at y ys x are rest false is = subst AreRanked (sym (with-later y ys x is)) (within-with y ys x are.0 is, rest)

    ranked-with : (ys : List T) (x : T) → AreRanked ys → AreRanked (with_ranked ys x)
    ranked-with [] x are = (tt, tt)
    ranked-with (y ∷ ys) x are = ranked-with-at y ys x are (ranked-with ys x are.1) (is_lesser y x) refl

    ranked-all : (xs ys : List T) → AreRanked ys → AreRanked (fold with_ranked ys xs)
    ranked-all [] ys are = are
    ranked-all (x ∷ xs) ys are = ranked-all xs (with_ranked ys x) (ranked-with ys x are)

    -- items that were ranked first are ranked before one after another
    all-through : (ys zs before : List T) → AreRanked zs → fold with_ranked before (fold with_ranked zs ys) ≡ fold with_ranked (fold with_ranked before zs) ys
    all-through [] zs before are = refl
    all-through (y ∷ ys) zs before are = all-through ys (with_ranked zs y) before (ranked-with zs y are)
        ∙ ap (λ l. fold with_ranked l ys) (through zs before y are)

    -- ---- those after the first n don't come among them

    leads-with-at : (k : ℕ) (w y : T) (ys : List T) (x : T) → Leads k w (y ∷ ys) → is_lesser x w ≡ false
        → ((j : ℕ) → Leads j w ys → Leads (suc j) w (with_ranked ys x))
        → (p : Bool) → is_lesser y x ≡ p → Leads (suc k) w (with_ranked (y ∷ ys) x)
    leads-with-at k w y ys x leads one rest true is = subst (Leads (suc k) w) (sym (with-here y ys x is)) (one, leads)
    leads-with-at zero w y ys x leads one rest false is = subst (Leads (suc zero) w) (sym (with-later y ys x is)) (back y x w is one, tt)
    leads-with-at (suc k) w y ys x leads one rest false is = subst (Leads (suc (suc k)) w) (sym (with-later y ys x is)) (leads.0, rest k leads.1)

    leads-with : (ys : List T) (k : ℕ) (w x : T) → Leads k w ys → is_lesser x w ≡ false → Leads (suc k) w (with_ranked ys x)
    leads-with [] zero w x leads one = (one, tt)
    leads-with [] (suc k) w x leads one = absurd leads
    leads-with (y ∷ ys) k w x leads one = leads-with-at k w y ys x leads one (λ j h. leads-with ys j w x h one) (is_lesser y x) refl

    leads-fewer : (k : ℕ) (w : T) (ys : List T) → Leads (suc k) w ys → Leads k w ys
    leads-fewer zero w ys leads = tt
    leads-fewer (suc k) w [] leads = absurd leads
    leads-fewer (suc k) w (y ∷ ys) leads = (leads.0, leads-fewer k w ys leads.1)

    fewer-all : (k : ℕ) (ys ws : List T) → LeadAll (suc k) ys ws → LeadAll k ys ws
    fewer-all k ys [] leads = tt
    fewer-all k ys (w ∷ ws) leads = (leads-fewer k w ys leads.0, fewer-all k ys ws leads.1)

    more-all : (k : ℕ) (ys : List T) (x : T) (ws : List T) → AreWithin x ws → LeadAll k ys ws → LeadAll (suc k) (with_ranked ys x) ws
    more-all k ys x [] within leads = tt
    more-all k ys x (w ∷ ws) within leads = (leads-with ys k w x leads.0 within.0, more-all k ys x ws within.1 leads.1)

    none-leads : (ys ws : List T) → LeadAll zero ys ws
    none-leads ys [] = tt
    none-leads ys (w ∷ ws) = (tt, none-leads ys ws)

    left-out : (n : ℕ) (ys : List T) (w : T) → Leads n w ys → take n (with_ranked ys w) ≡ take n ys
    left-out zero ys w leads = refl
    left-out (suc n) [] w leads = absurd leads
    left-out (suc n) (y ∷ ys) w leads = ap (take (suc n)) (with-later y ys w leads.0) ∙ ap (λ l. y ∷ l) (left-out n ys w leads.1)

    all-left-out : (n : ℕ) (zs ys : List T) → AreRanked zs → LeadAll n ys zs → take n ys ≡ take n (fold with_ranked ys zs)
    all-left-out n [] ys are leads = refl
    all-left-out n (z ∷ zs) ys are leads =
        sym (left-out n ys z leads.0) ∙ all-left-out n zs (with_ranked ys z) are.1 (fewer-all n (with_ranked ys z) zs (more-all n ys z zs are.0 leads.1))

    kept : (n m k : ℕ) (zs ys : List T) → n ≡ k + m → AreRanked zs → LeadAll k ys zs
        → take n (fold with_ranked ys (take m zs)) ≡ take n (fold with_ranked ys zs)
    kept n zero k zs ys is are leads =
        let same : n ≡ k = omega (arith, is) in
        all-left-out n zs ys are (subst (λ j. LeadAll j ys zs) (sym same) leads)
    kept n (suc m) k [] ys is are leads = refl
    kept n (suc m) k (z ∷ zs) ys is are leads =
        let next : n ≡ suc k + m = omega (arith, is) in
        kept n m (suc k) zs (with_ranked ys z) next are.1 (more-all k ys z zs are.0 leads.1)

    joins : (n : ℕ) (xs ys : List T) → fold (with_top n) (fold_of (topping n) xs) (fold_of (topping n) ys) ≡ fold_of (topping n) (xs ++ ys)
    joins n xs ys =
        ap (λ l. fold (with_top n) l (fold_of (topping n) ys)) (fold_of-top n xs)
        ∙ ap (fold (with_top n) (take n (ranked_items xs))) (fold_of-top n ys)
        ∙ cut-all n (ranked_items xs) (take n (ranked_items ys))
        ∙ kept n n 0 (ranked_items ys) (ranked_items xs) (omega arith) (ranked-all ys [] tt) (none-leads (ranked_items xs) (ranked_items ys))
        ∙ ap (take n) (all-through ys [] (ranked_items xs) tt ∙ sym (fold-append with_ranked [] xs ys))
        ∙ sym (fold_of-top n (xs ++ ys))

    pub topping-lawful : (n : ℕ) → IsFolding (topping n)
    topping-lawful n = record { joins = joins n; neutral = λ xs. joins n [] xs }
