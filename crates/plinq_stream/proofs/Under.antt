-- Numbers, and what was sent under them.
use Rattle.std.proofs.Common.{◌≡◌, ◌≢◌, ℕ, ◌<◌, ◌==◌, eqb-true, ne_eqb, eq-eqb, ◌||◌, Bool, true, false, true≢false, List, [], ◌∷◌, ◌++◌, take, drop}
use Rattle.std.proofs.Common.{All, if◌then◌else◌, refl, sym, ap, ◌∙◌, subst, ◌⊎◌, inl, inr, ⊎_elim}
use Rattle.std.proofs.lemmas.Bool.{cases_lt}
use Rattle.std.proofs.lemmas.List.Elements.{All-nil, All-cons, All-head, All-tail}
use Rattle.std.proofs.lemmas.List.Folds.{list_any-append}
use Rattle.plinq_stream.specs.declared.pass_knowledge.PassKnowledge.{PassKnowledge}
use Rattle.plinq_stream.specs.declared.sent.Sent.{Sent}
use Rattle.plinq_stream.specs.Streams.{has, under, HasReceivedAll}

pub has-append : (n : ℕ) (xs ys : List ℕ) → has n (xs ++ ys) ≡ (has n xs || has n ys)
has-append n xs ys = list_any-append (λ m. m == n) xs ys

pub or-left : (a b : Bool) → (a || b) ≡ false → a ≡ false
or-left true b e = e
or-left false b e = refl

pub or-right : (a b : Bool) → (a || b) ≡ false → b ≡ false
or-right true b e = absurd (true≢false e)
or-right false b e = e

pub or-cases : (a b : Bool) → (a || b) ≡ true → (a ≡ true) ⊎ (b ≡ true)
or-cases true b e = inl refl
or-cases false b e = inr e

pub or-none : (a b : Bool) → a ≡ false → b ≡ false → (a || b) ≡ false
or-none a b e f = rw (e, f) refl

pub or-first : (a b : Bool) → a ≡ true → (a || b) ≡ true
or-first a b e = rw e refl

pub or-second : (a b : Bool) → b ≡ true → (a || b) ≡ true
or-second true b e = refl
or-second false b e = e

pub either-way : (b : Bool) → (b ≡ true) ⊎ (b ≡ false)
either-way true = inl refl
either-way false = inr refl

-- the first of some numbers, and the others, are all of them
pub has-split : (n : ℕ) (xs : List ℕ) → has n xs ≡ (has n (take 1 xs) || has n (drop 1 xs))
has-split n [] = refl
has-split n (x ∷ xs) = first (x == n) (has n xs)
  where
    first : (a b : Bool) → (a || b) ≡ ((a || false) || b)
    first true b = refl
    first false b = refl

module _ {T : Type 0} where
  chosen-append : (x : T) (xs ys zs : List T) → zs ≡ xs ++ ys → (b : Bool) → (if b then x ∷ zs else zs) ≡ (if b then x ∷ xs else xs) ++ ys
  chosen-append x xs ys zs is true = ap (λ l. x ∷ l) is
  chosen-append x xs ys zs is false = is

  pub under-append : (n : ℕ) (xs ys : List (Sent T)) → under n (xs ++ ys) ≡ under n xs ++ under n ys
  under-append n [] ys = refl
  under-append n (s ∷ ss) ys = chosen-append s.item (under n ss) (under n ys) (under n (ss ++ ys)) (under-append n ss ys) (s.number == n)

  -- an item under another number
  under-other : (n : ℕ) (s : Sent T) → (s.number == n) ≡ false → under n (s ∷ []) ≡ []
  under-other n s e = ap (λ (b : Bool). if b then s.item ∷ [] else []) e

  -- under a number that isn't one of these, an item is not whose number is
  pub under-apart : (n : ℕ) (s : Sent T) (numbers : List ℕ) → has s.number numbers ≡ true → has n numbers ≡ false → under n (s ∷ []) ≡ []
  under-apart n s numbers is not = ⊎_elim
      (λ (same : (s.number == n) ≡ true). absurd (true≢false (sym (subst (λ m. has m numbers ≡ true) (eqb-true s.number n same) is) ∙ not)))
      (λ e. under-other n s e) (either-way (s.number == n))

  -- an item under its own number
  pub under-own : (n : ℕ) (x : T) → under n (record { number = n; item = x } ∷ []) ≡ x ∷ []
  under-own n x = ap (λ (b : Bool). if b then x ∷ [] else []) (eq-eqb n n refl)

  -- nothing under a number that no item has
  pub under-none : (n : ℕ) (ss : List (Sent T)) → All (λ s. s.number ≢ n) ss → under n ss ≡ []
  under-none n [] all = refl
  under-none n (s ∷ ss) all =
      let other = All-head (λ (x : Sent T). x.number ≢ n) s ss all in
      let rest = under-none n ss (All-tail (λ (x : Sent T). x.number ≢ n) s ss all) in
      ap (λ (b : Bool). if b then s.item ∷ under n ss else under n ss) (ne_eqb s.number n other) ∙ rest

  -- what holds of all items holds of those under a number
  pub under-all : (P : T → Type 0) (n : ℕ) (ss : List (Sent T)) → All (λ s. P s.item) ss → All P (under n ss)
  under-all P n [] all = All-nil P
  under-all P n (s ∷ ss) all =
      let rest = under-all P n ss (All-tail (λ (x : Sent T). P x.item) s ss all) in
      chosen (s.number == n) (All-head (λ (x : Sent T). P x.item) s ss all) rest
    where
      chosen : (b : Bool) → P s.item → All P (under n ss) → All P (if b then s.item ∷ under n ss else under n ss)
      chosen true first rest = All-cons P s.item (under n ss) first rest
      chosen false first rest = rest

  -- and what holds of those under each number holds of all
  pub all-under : (P : T → Type 0) (ss : List (Sent T)) → ((n : ℕ) → All P (under n ss)) → All (λ s. P s.item) ss
  all-under P [] all = All-nil (λ (x : Sent T). P x.item)
  all-under P (s ∷ ss) all =
      All-cons (λ (x : Sent T). P x.item) s ss
      (All-head P s.item (under s.number ss)
      (subst (λ (b : Bool). All P (if b then s.item ∷ under s.number ss else under s.number ss)) (eq-eqb s.number s.number refl) (all s.number)))
      (all-under P ss (λ n. left n (s.number == n) (all n)))
    where
      left : (n : ℕ) (b : Bool) → All P (if b then s.item ∷ under n ss else under n ss) → All P (under n ss)
      left n true all = All-tail P s.item (under n ss) all
      left n false all = all

  -- what holds of each item that was sent under 64 numbers holds of each that was received
  pub each-received : (P : T → Type 0) (a : PassKnowledge T) → HasReceivedAll a → ((n : ℕ) → n < 64 → has n a.numbers ≡ true) → All (λ s. P s.item) a.sent
      → All (λ s. P s.item) a.received
  each-received P a come numbers all =
      all-under P a.received (λ n. ⊎_elim (λ near. subst (All P) (sym (come.own n (numbers n near))) (under-all P n a.sent all))
      (λ far. subst (All P) (sym (come.none n far)) (All-nil P)) (cases_lt n 64))
