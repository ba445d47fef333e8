-- Items made into something else, each into one or left out, up to the first that faults.
use Rattle.std.specs.Prelude.{◌≡◌, refl, ℕ, ◌+◌, ⊤, ◌==◌, if◌then◌else◌, List, [], ◌∷◌, ◌++◌, true, false, Option, Some, None, is_some, Result, Ok, Err}
use Rattle.std.specs.List.{fold, filter_map}
use Rattle.std.proofs.Common.{sym, ◌∙◌, ap, append_assoc, append-nil}
use Rattle.plinq_aggregate.specs.Folding.{Folding, fold_of, IsFolding}
use Rattle.plinq_groups.specs.declared.map_fault.MapFault.{MapFault}
use Rattle.plinq_groups.specs.declared.map_fault.MapFault.TheVariants.{Memory, Code}
use Rattle.plinq_groups.specs.inner.Acting.{acting-lawful}

-- what is made of an item is this, or nothing; or there was no room for it
abbrev pub Makes : {B : Type 0} → Result (Option B) ℕ → Result (Option B) MapFault → Type 0
Makes made (Ok y) = made ≡ Ok y
Makes made (Err (Code code)) = made ≡ Err code
Makes made (Err Memory) = ⊤

module _ {B : Type 0} where
  -- what was made of items, and the code of the one after them that faulted; and what comes of one item more
  abbrev pub with_made : List B → Option ℕ → Result (Option B) ℕ → List B × Option ℕ
  with_made ys (Some code) r = (ys, Some code)
  with_made ys None (Ok None) = (ys, None)
  with_made ys None (Ok (Some y)) = (ys ++ y ∷ [], None)
  with_made ys None (Err code) = (ys, Some code)

  -- what was made of items and of those after them
  abbrev pub both_made : List B → Option ℕ → List B × Option ℕ → List B × Option ℕ
  both_made ys (Some code) b = (ys, Some code)
  both_made ys None b = (ys ++ b.0, b.1)

  takes-after : (ys : List B) (e : Option ℕ) (zs : List B) (e' : Option ℕ) (r : Result (Option B) ℕ)
      → both_made ys e (with_made zs e' r) ≡ with_made (both_made ys e (zs, e')).0 (both_made ys e (zs, e')).1 r
  takes-after ys (Some code) zs e' r = refl
  takes-after ys None zs (Some code) r = refl
  takes-after ys None zs None (Ok None) = refl
  takes-after ys None zs None (Ok (Some y)) = ap (λ l. (l, None)) (sym (append_assoc ys zs (y ∷ [])))
  takes-after ys None zs None (Err code) = refl

  ends-in-seed : (ys : List B) (e : Option ℕ) → both_made ys e ([], None) ≡ (ys, e)
  ends-in-seed ys (Some code) = refl
  ends-in-seed ys None = ap (λ l. (l, None)) (append-nil ys)

module _ {T B : Type 0} (maps : T → Result (Option B) ℕ) where
  abbrev pub mapping : Folding T (List B × Option ℕ) (List B × Option ℕ)
  mapping = record { seed = ([], None); update = λ a x. with_made a.0 a.1 (maps x); combine = λ a b. both_made a.0 a.1 b; tell = λ a. a }

  pub mapping-lawful : IsFolding mapping
  mapping-lawful = acting-lawful mapping (λ a b x. takes-after a.0 a.1 b.0 b.1 (maps x)) (λ a. ends-in-seed a.0 a.1)

  -- what is made of all items, up to the first that faults
  abbrev pub before_made : Result (Option B) ℕ → List B × Option ℕ → List B × Option ℕ
  before_made (Ok None) rest = rest
  before_made (Ok (Some y)) rest = (y ∷ rest.0, rest.1)
  before_made (Err code) rest = ([], Some code)

  abbrev pub mapped_items : List T → List B × Option ℕ
  mapped_items [] = ([], None)
  mapped_items (x ∷ xs) = before_made (maps x) (mapped_items xs)

  pub stopped : (ys : List B) (code : ℕ) (xs : List T) → fold mapping.update (ys, Some code) xs ≡ (ys, Some code)
  stopped ys code [] = refl
  stopped ys code (x ∷ xs) = stopped ys code xs

  mapped_items-at : (ys : List B) (x : T) (xs : List T) → ((zs : List B) → fold mapping.update (zs, None) xs ≡ (zs ++ (mapped_items xs).0, (mapped_items xs).1))
      → (r : Result (Option B) ℕ)
      → fold mapping.update (with_made ys None r) xs ≡ (ys ++ (before_made r (mapped_items xs)).0, (before_made r (mapped_items xs)).1)
  mapped_items-at ys x xs rest (Ok None) = rest ys
  mapped_items-at ys x xs rest (Ok (Some y)) = rest (ys ++ y ∷ []) ∙ ap (λ l. (l, (mapped_items xs).1)) (append_assoc ys (y ∷ []) (mapped_items xs).0)
  mapped_items-at ys x xs rest (Err code) = stopped ys code xs ∙ ap (λ l. (l, Some code)) (sym (append-nil ys))

  pub mapped_items-from : (xs : List T) (ys : List B) → fold mapping.update (ys, None) xs ≡ (ys ++ (mapped_items xs).0, (mapped_items xs).1)
  mapped_items-from [] ys = ap (λ l. (l, None)) (sym (append-nil ys))
  mapped_items-from (x ∷ xs) ys = mapped_items-at ys x xs (mapped_items-from xs) (maps x)

  -- after an item that faulted a block changes nothing
  pub stopped-block : (ys : List B) (e : Option ℕ) (xs : List T) → is_some e ≡ true
      → ◌≡◌ {A = List B × Option ℕ} (ys, e) (fold mapping.update (ys, e) xs)
  stopped-block ys (Some code) xs is = sym (stopped ys code xs)
  stopped-block ys None xs is = absurd (cc)

  -- else what is made of it is added
  pub mapped-block : (ys : List B) (e : Option ℕ) (xs : List T) (zs : List B) (e' : Option ℕ) → is_some e ≡ false → zs ≡ ys ++ (mapped_items xs).0
      → e' ≡ (mapped_items xs).1 → ◌≡◌ {A = List B × Option ℕ} (zs, e') (fold mapping.update (ys, e) xs)
  mapped-block ys (Some code) xs zs e' is made fault = absurd (cc)
  mapped-block ys None xs zs e' is made fault =
      let first : ◌≡◌ {A = List B × Option ℕ} (zs, e') (ys ++ (mapped_items xs).0, e') = ap (λ l. (l, e')) made in
      first ∙ ap (λ d. (ys ++ (mapped_items xs).0, d)) fault ∙ sym (mapped_items-from xs ys)

  -- what the fold comes to
  pub fold_of-mapping : (xs : List T) → fold_of mapping xs ≡ mapped_items xs
  fold_of-mapping xs = mapped_items-from xs []

-- where no item faults, this is made
module _ {T B : Type 0} (h : T → Option B) where
  -- one more, which is made or left out
  kept-at : (x : T) (xs : List T) (o : Option B) → h x ≡ o
      → before_made (λ (x : T). Ok (h x)) (Ok o) (filter_map h xs, None) ≡ (filter_map h (x ∷ xs), None)
  kept-at x xs None is = cc
  kept-at x xs (Some y) is = cc

  pub mapped_items-kept : (xs : List T) → mapped_items (λ x. Ok (h x)) xs ≡ (filter_map h xs, None)
  mapped_items-kept [] = refl
  mapped_items-kept (x ∷ xs) = ap (before_made (λ x. Ok (h x)) (Ok (h x))) (mapped_items-kept xs) ∙ kept-at x xs (h x) refl

-- ---- worked rows

-- one more than each, without 5, and of all but 3
abbrev one_more : ℕ → Result (Option ℕ) ℕ
one_more n = if n == 3 then Err 7 else (if n == 5 then Ok None else Ok (Some (n + 1)))

some_are_left_out : mapped_items one_more (5 ∷ 1 ∷ 5 ∷ 2 ∷ []) ≡ (2 ∷ 3 ∷ [], None)
some_are_left_out = refl

nothing_after_a_fault : mapped_items one_more (5 ∷ 1 ∷ 3 ∷ 2 ∷ []) ≡ (2 ∷ [], Some 7)
nothing_after_a_fault = refl
