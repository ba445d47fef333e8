-- Batches by blocks: items that fill a batch, and items that don't.
use Rattle.plinq_merge.proofs.MergerWords.{◌≡◌, ℕ, ◌+◌, ◌-◌, ◌<◌, ◌≤◌, ◌==◌, take, drop, List, [], ◌∷◌, ◌++◌, length, true, false, Some, refl, sym, ◌∙◌, ap}
use Rattle.plinq_merge.proofs.MergerWords.{arith, append-nil, append_assoc, length-drop, length-take-le, take-append-drop, nat_tests, take-length, full_batches}
use Rattle.plinq_merge.proofs.MergerWords.{held_back, full_batches-append}
use Rattle.std.specs.Prelude.{zero, suc, ◌*◌, ◌/◌, ◌%◌, min}
use Rattle.plinq_ops.proofs.GrowingBatches.{held_back-append}
use Rattle.plinq_merge.specs.Sending.{singles}
use Rattle.std.proofs.lemmas.Nat.{div-add-mod', mod_below}
use Rattle.std.proofs.{Common.length-append, lemmas.List.nil_from_length}

module _ {T : Type 0} (n : ℕ) where
  -- items that don't fill a batch give none, and are held back after the others
  pub batches-short : (held xs : List T) → length held + length xs < n → (full_batches (Some n) held xs ≡ []) × (held_back (Some n) held xs ≡ held ++ xs)
  batches-short held [] few = (refl, sym (append-nil held))
  batches-short held (x ∷ xs) few =
      let more : length (held ++ x ∷ []) ≡ length held + 1 = length-append held (x ∷ []) in
      let below : (length held + 1 == n) ≡ false = grind (arith, nat_tests) in
      let later = batches-short (held ++ x ∷ []) xs (omega arith) in
      rw below (later.0, later.1 ∙ append_assoc held (x ∷ []) xs)

  pub full_batches-short : (held xs : List T) → length held + length xs < n → full_batches (Some n) held xs ≡ []
  full_batches-short held xs few = (batches-short held xs few).0

  -- items that fill a batch give it, and nothing is held back
  pub batches-filled : (held xs : List T) → 0 < length xs → length held + length xs ≡ n
      → (full_batches (Some n) held xs ≡ (held ++ xs) ∷ []) × (held_back (Some n) held xs ≡ [])
  batches-filled held [] some same = absurd (omega arith)
  batches-filled held (x ∷ []) some same = let full : (length held + 1 == n) ≡ true = grind (arith, nat_tests) in rw full (refl, refl)
  batches-filled held (x ∷ (y ∷ xs)) some same =
      let more : length (held ++ x ∷ []) ≡ length held + 1 = length-append held (x ∷ []) in
      let below : (length held + 1 == n) ≡ false = grind (arith, nat_tests) in
      let later = batches-filled (held ++ x ∷ []) (y ∷ xs) (omega arith) (omega arith) in
      rw below (later.0 ∙ ap (λ b. b ∷ []) (append_assoc held (x ∷ []) (y ∷ xs)), later.1)

  pub full_batches-filled : (held xs ys : List T) → 0 < length xs → length held + length xs ≡ n
      → full_batches (Some n) held (xs ++ ys) ≡ (held ++ xs) ∷ full_batches (Some n) [] ys
  full_batches-filled held xs ys some same =
      let one = batches-filled held xs some same in rw (full_batches-append (Some n) held xs ys, one.0, one.1) refl

  -- all of the items fit
  pub filled-all : (k : ℕ) (held xs ys : List T) → k ≡ min (length xs) (n - length held) → length held + length xs ≤ n
      → ys ≡ held ++ take k xs → ys ≡ held ++ xs
  filled-all k held xs ys count fits is =
      let all : k ≡ length xs = omega arith in rw (is, all, take-length xs) refl

  -- where the batch isn't full, all of the items fit
  pub short-filled : (k : ℕ) (held xs ys : List T) → k ≡ min (length xs) (n - length held) → ys ≡ held ++ take k xs → length held < n
      → (length ys == n) ≡ false → length held + length xs < n
  short-filled k held xs ys count is room test =
      let longer : length ys ≡ length held + length (take k xs) = ap length is ∙ length-append held (take k xs) in
      let taken : length (take k xs) ≡ k = length-take-le k xs (omega arith) in
      grind (arith, nat_tests)

  -- items that fill up a batch, and the others
  pub taken-full : (k : ℕ) (held xs : List T) → length held < n → length (held ++ take k xs) ≡ n
      → (full_batches (Some n) held xs ≡ (held ++ take k xs) ∷ full_batches (Some n) [] (drop k xs))
      × (held_back (Some n) held xs ≡ held_back (Some n) [] (drop k xs))
  taken-full k held xs room full =
      let long : length held + length (take k xs) ≡ n = sym (length-append held (take k xs)) ∙ full in
      let filled = batches-filled held (take k xs) (omega arith) long in (
        rw (take-append-drop k xs, filled.0, filled.1) at (full_batches-append (Some n) held (take k xs) (drop k xs)),
        rw (take-append-drop k xs, filled.1) at (held_back-append (Some n) held (take k xs) (drop k xs)),
      )

  -- ---- items of whole batches

  -- the first batch, and the others
  pub full_batches-first : (xs : List T) → 0 < n → n ≤ length xs → full_batches (Some n) [] xs ≡ take n xs ∷ full_batches (Some n) [] (drop n xs)
  full_batches-first xs some enough = (taken-full n [] xs some (length-take-le n xs enough)).0

  pub full_batches-split : (xs front back : List T) → 0 < n → n ≤ length xs → front ≡ take n xs → back ≡ drop n xs
      → full_batches (Some n) [] xs ≡ front ∷ full_batches (Some n) [] back
  full_batches-split xs front back some enough first rest = rw (first, rest) (full_batches-first xs some enough)

  -- nothing is held back of them
  pub held_back-whole : (k : ℕ) (xs : List T) → 0 < n → length xs ≡ k * n → held_back (Some n) [] xs ≡ []
  held_back-whole zero xs some is = ap (held_back (Some n) []) (nil_from_length xs (omega (arith, is)))
  held_back-whole (suc k) xs some is =
      (taken-full n [] xs some (length-take-le n xs (omega (arith, is)))).1 ∙ held_back-whole k (drop n xs) some (length-drop n xs ∙ omega (arith, is))

  -- their batches, and those of the items after them
  pub full_batches-whole : (k : ℕ) (xs front back : List T) → 0 < n → front ++ back ≡ xs → length front ≡ k * n
      → full_batches (Some n) [] xs ≡ full_batches (Some n) [] front ++ full_batches (Some n) [] back
  full_batches-whole k xs front back some parts is =
      rw (← parts, full_batches-append (Some n) [] front back, held_back-whole k front some is) refl

  -- ---- the items after the last full batch

  whole-length : (xs : List T) → length (take (length xs - length xs % n) xs) ≡ length xs / n * n
  whole-length xs = length-take-le (length xs - length xs % n) xs (omega arith) ∙ omega (arith, div-add-mod' (length xs) n)

  pub rest-short : (xs : List T) → 0 < n → length (drop (length xs - length xs % n) xs) < n
  rest-short xs some = omega (arith, length-drop (length xs - length xs % n) xs, div-add-mod' (length xs) n, mod_below (length xs) n some)

  pub held_back-rest : (xs : List T) → 0 < n → held_back (Some n) [] xs ≡ drop (length xs - length xs % n) xs
  held_back-rest xs some =
      let k = length xs - length xs % n in
      rw (take-append-drop k xs, held_back-whole (length xs / n) (take k xs) some (whole-length xs)) at (held_back-append (Some n) [] (take k xs) (drop k xs))
      ∙ (batches-short [] (drop k xs) (omega (arith, rest-short xs some))).1

  pub full_batches-before : (xs : List T) → 0 < n → full_batches (Some n) [] xs ≡ full_batches (Some n) [] (take (length xs - length xs % n) xs)
  full_batches-before xs some =
      let k = length xs - length xs % n in
      let short = full_batches-short [] (drop k xs) (omega (arith, rest-short xs some)) in
      rw (short, append-nil) at (full_batches-whole (length xs / n) xs (take k xs) (drop k xs) some (take-append-drop k xs) (whole-length xs))

-- batches of one item each
pub full_batches-one : {T : Type 0} (xs : List T) → full_batches (Some 1) [] xs ≡ singles xs
full_batches-one [] = refl
full_batches-one (x ∷ xs) = ap (λ bs. (x ∷ []) ∷ bs) (full_batches-one xs)
