-- The place of an item among items that were ranked.
use Rattle.std.specs.Prelude.{◌≡◌, ℕ, ◌+◌, ◌<◌, ◌≤◌, true, false, List, [], ◌∷◌, ◌++◌, length, take, drop, get_or}
use Rattle.std.specs.Ordering.{is_lt}
use Rattle.std.specs.List.{insert}
use Rattle.std.specs.declared.cmp.Ordering.{Ordering}
use Rattle.std.proofs.Common.{sym, ◌∙◌, ap, arith, append_assoc}
use Rattle.std.proofs.lemmas.List.{take_more, drop_more, drop_all, take-append-le, take-append-drop, length-take-le}
use Rattle.plinq_groups.specs.Topped.{with_ranked, with_top, with-here, with-later}

module _ {T K : Type 0} (rank : T → K) (cmp : K → K → Ordering) where
  -- the items so far are of no lesser rank
  abbrev StandsAfter : List T → T → ℕ → Type 0
  StandsAfter ys x i = with_ranked rank cmp ys x ≡ take i ys ++ with_ranked rank cmp (drop i ys) x

  -- nor is one more
  pub stands-later : (ys : List T) (x y : T) (i : ℕ) → i < length ys → y ≡ get_or ys i y → is_lt (cmp (rank y) (rank x)) ≡ false → StandsAfter ys x i
      → StandsAfter ys x (i + 1)
  stands-later ys x y i small is keeps so =
      let one : drop i ys ≡ y ∷ drop (i + 1) ys = drop_more ys i y small ∙ ap (λ z. z ∷ drop (i + 1) ys) (sym is) in
      let more : take (i + 1) ys ≡ take i ys ++ y ∷ [] = take_more ys i y small ∙ ap (λ z. take i ys ++ z ∷ []) (sym is) in
      so
      ∙ ap (λ l. take i ys ++ with_ranked rank cmp l x) one
      ∙ ap (λ l. take i ys ++ l) (with-later rank cmp y (drop (i + 1) ys) x keeps)
      ∙ sym (append_assoc (take i ys) (y ∷ []) (with_ranked rank cmp (drop (i + 1) ys) x))
      ∙ ap (λ l. l ++ with_ranked rank cmp (drop (i + 1) ys) x) (sym more)

  -- one that is has it stand here
  pub stands-here : (ys : List T) (x y : T) (i : ℕ) → i < length ys → y ≡ get_or ys i y → is_lt (cmp (rank y) (rank x)) ≡ true → StandsAfter ys x i
      → with_ranked rank cmp ys x ≡ insert ys i x
  stands-here ys x y i small is lesser so =
      let one : drop i ys ≡ y ∷ drop (i + 1) ys = drop_more ys i y small ∙ ap (λ z. z ∷ drop (i + 1) ys) (sym is) in
      so
      ∙ ap (λ l. take i ys ++ with_ranked rank cmp l x) one
      ∙ ap (λ l. take i ys ++ l) (with-here rank cmp y (drop (i + 1) ys) x lesser)
      ∙ ap (λ l. take i ys ++ x ∷ l) (sym one)

  -- and so has the end
  pub stands-last : (ys : List T) (x : T) (i : ℕ) → length ys ≤ i → StandsAfter ys x i → with_ranked rank cmp ys x ≡ insert ys i x
  stands-last ys x i end so =
      let none : drop i ys ≡ [] = drop_all i ys end in
      so ∙ ap (λ l. take i ys ++ with_ranked rank cmp l x) none ∙ ap (λ l. take i ys ++ x ∷ l) (sym none)

  -- where it stands after the first n, these stay
  pub stays-top : (n : ℕ) (ys : List T) (x : T) (i : ℕ) → n ≤ i → i ≤ length ys → with_ranked rank cmp ys x ≡ insert ys i x
      → take n ys ≡ with_top rank cmp n ys x
  stays-top n ys x i after within is =
      let long : n ≤ length (take i ys) = omega (arith, after, length-take-le i ys within) in
      ap (take n) (sym (take-append-drop i ys))
      ∙ take-append-le n (take i ys) (drop i ys) long
      ∙ sym (ap (take n) is ∙ take-append-le n (take i ys) (x ∷ drop i ys) long)
