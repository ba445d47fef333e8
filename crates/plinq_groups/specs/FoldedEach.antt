-- The fold of what is made of each item, up to the first that faults.
use Rattle.std.specs.Prelude.{◌≡◌, refl, ℕ, ◌+◌, ◌==◌, if◌then◌else◌, List, [], ◌∷◌, ◌++◌, true, false, Option, Some, None, is_some, Result, Ok, Err}
use Rattle.std.specs.List.{fold}
use Rattle.std.proofs.Common.{sym, ◌∙◌, ap}
use Rattle.plinq_aggregate.specs.Folding.{Folding, fold_of, IsFolding}
use Rattle.plinq_groups.specs.Mapping.{mapping, mapping-lawful, mapped_items, before_made, both_made, fold_of-mapping}

module _ {T B A O : Type 0} (makes : T → Result (Option B) ℕ) (f : Folding B A O) where
  -- what was folded, and the code of the item that faulted; and what comes of one item more
  abbrev pub with_folded : A → Option ℕ → Result (Option B) ℕ → A × Option ℕ
  with_folded a (Some code) r = (a, Some code)
  with_folded a None (Ok None) = (a, None)
  with_folded a None (Ok (Some y)) = (f.update a y, None)
  with_folded a None (Err code) = (a, Some code)

  -- of items and of those after them
  abbrev pub both_folded : A → Option ℕ → A → Option ℕ → A × Option ℕ
  both_folded a (Some code) b e = (a, Some code)
  both_folded a None b e = (f.combine a b, e)

  -- the value of what was made, and the code
  abbrev pub folding_each : Folding T (A × Option ℕ) (O × Option ℕ)
  folding_each = record {
    seed = (f.seed, None);
    update = λ a x. with_folded a.0 a.1 (makes x);
    combine = λ a b. both_folded a.0 a.1 b.0 b.1;
    tell = λ a. (f.tell a.0, a.1);
  }

  pub stuck : (a : A) (code : ℕ) (xs : List T) → fold folding_each.update (a, Some code) xs ≡ (a, Some code)
  stuck a code [] = refl
  stuck a code (x ∷ xs) = stuck a code xs

  -- after an item that faulted a block changes nothing
  pub stuck-block : (a : A) (e : Option ℕ) (xs : List T) → is_some e ≡ true → ◌≡◌ {A = A × Option ℕ} (a, e) (fold folding_each.update (a, e) xs)
  stuck-block a (Some code) xs is = sym (stuck a code xs)
  stuck-block a None xs is = absurd (cc)

  folded-at : (a : A) (xs : List T)
      → ((b : A) → fold folding_each.update (b, None) xs ≡ (fold f.update b (mapped_items makes xs).0, (mapped_items makes xs).1))
      → (r : Result (Option B) ℕ)
      → fold folding_each.update (with_folded a None r) xs
      ≡ (fold f.update a (before_made makes r (mapped_items makes xs)).0, (before_made makes r (mapped_items makes xs)).1)
  folded-at a xs rest (Ok None) = rest a
  folded-at a xs rest (Ok (Some y)) = rest (f.update a y)
  folded-at a xs rest (Err code) = stuck a code xs

  -- what a fold from an accumulator comes to
  pub folded-from : (xs : List T) (a : A) → fold folding_each.update (a, None) xs ≡ (fold f.update a (mapped_items makes xs).0, (mapped_items makes xs).1)
  folded-from [] a = refl
  folded-from (x ∷ xs) a = folded-at a xs (folded-from xs) (makes x)

  -- a block is folded by folding what is made of it
  pub folded-block : (a : A) (e : Option ℕ) (xs : List T) (ys : List B) (e' : Option ℕ) (b : A) → is_some e ≡ false → ys ≡ (mapped_items makes xs).0
      → e' ≡ (mapped_items makes xs).1 → b ≡ fold f.update a ys → ◌≡◌ {A = A × Option ℕ} (b, e') (fold folding_each.update (a, e) xs)
  folded-block a (Some code) xs ys e' b is made fault folded = absurd (cc)
  folded-block a None xs ys e' b is made fault folded =
      let first : ◌≡◌ {A = A × Option ℕ} (b, e') (fold f.update a (mapped_items makes xs).0, e') =
      ap (λ c. (c, e')) (folded ∙ ap (fold f.update a) made) in
      first ∙ ap (λ d. (fold f.update a (mapped_items makes xs).0, d)) fault ∙ sym (folded-from xs a)

  -- it is the fold of all that is made up to the first fault, with its code
  pub fold_of-each : (xs : List T) → fold_of folding_each xs ≡ (fold_of f (mapped_items makes xs).0, (mapped_items makes xs).1)
  fold_of-each xs = folded-from xs f.seed

  made-append : (xs ys : List T)
      → both_made (mapped_items makes xs).0 (mapped_items makes xs).1 (mapped_items makes ys) ≡ mapped_items makes (xs ++ ys)
  made-append xs ys =
      ap (λ p. both_made p.0 p.1 (mapped_items makes ys)) (sym (fold_of-mapping makes xs))
      ∙ ap (both_made (fold_of (mapping makes) xs).0 (fold_of (mapping makes) xs).1) (sym (fold_of-mapping makes ys))
      ∙ (mapping-lawful makes).joins xs ys
      ∙ fold_of-mapping makes (xs ++ ys)

  module _ (lawful : IsFolding f) where
    joins-at : (ys : List B) (e : Option ℕ) (zs : List B) (d : Option ℕ)
        → both_folded (fold_of f ys) e (fold_of f zs) d ≡ (fold_of f (both_made ys e (zs, d)).0, (both_made ys e (zs, d)).1)
    joins-at ys (Some code) zs d = refl
    joins-at ys None zs d = ap (λ a. (a, d)) (lawful.joins ys zs)

    pub folding_each-lawful : IsFolding folding_each
    folding_each-lawful =
        record {
          joins = λ xs ys. ap (λ a. both_folded a.0 a.1 (fold_of folding_each ys).0 (fold_of folding_each ys).1) (fold_of-each xs)
              ∙ ap (λ b. both_folded (fold_of f (mapped_items makes xs).0) (mapped_items makes xs).1 b.0 b.1) (fold_of-each ys)
              ∙ joins-at (mapped_items makes xs).0 (mapped_items makes xs).1 (mapped_items makes ys).0 (mapped_items makes ys).1
              ∙ ap (λ p. (fold_of f p.0, p.1)) (made-append xs ys)
              ∙ sym (fold_of-each (xs ++ ys));
          neutral = λ xs. ap (λ b. both_folded f.seed None b.0 b.1) (fold_of-each xs)
              ∙ ap (λ a. (a, (mapped_items makes xs).1)) (lawful.neutral (mapped_items makes xs).0)
              ∙ sym (fold_of-each xs);
        }

-- ---- worked rows

-- the sum of one more than each, without 5, and of all but 3
abbrev adding : Folding ℕ ℕ ℕ
adding = record { seed = 0; update = λ a x. a + x; combine = λ a b. a + b; tell = λ a. a }

abbrev one_more : ℕ → Result (Option ℕ) ℕ
one_more n = if n == 3 then Err 7 else (if n == 5 then Ok None else Ok (Some (n + 1)))

what_is_made_is_added : fold_of (folding_each one_more adding) (5 ∷ 1 ∷ 2 ∷ []) ≡ (5, None)
what_is_made_is_added = refl

nothing_is_added_after_a_fault : fold_of (folding_each one_more adding) (1 ∷ 3 ∷ 2 ∷ []) ≡ (2, Some 7)
nothing_is_added_after_a_fault = refl
