-- What steps one after another may make of an item.
use Rattle.std.specs.Prelude.{◌≡◌, refl, ℕ, ◌+◌, Bool, false, cond, Option, Some, None}
use Rattle.std.proofs.Common.{sym, ◌∙◌, ap, subst}

module _ {Y B : Type 0} where
  -- what is made of what was made before, if anything was
  abbrev pub MakesOf : (Y → Option B → Type 0) → Option Y → Option B → Type 0
  MakesOf Then None r = r ≡ None
  MakesOf Then (Some y) r = Then y r

  -- something may be made, and then this of it
  pub record GivesThen (Before : Option Y → Type 0) (Then : Y → Option B → Type 0) (r : Option B) : Type 0 where
    pub between : Option Y
    pub was : Before between
    pub is : MakesOf Then between r

  -- a closure may give this
  pub record Selects (Gives : Y → B → Type 0) (y : Y) (r : Option B) : Type 0 where
    pub value : B
    pub given : Gives y value
    pub is : r ≡ Some value

-- a closure may let it pass, or leave it out
pub record Passes {Y : Type 0} (Gives : Y → Bool → Type 0) (y : Y) (r : Option Y) : Type 0 where
  pub passes : Bool
  pub given : Gives y passes
  pub is : r ≡ cond passes (Some y) None

-- ---- there is such an answer, and only one

pub some_item : {T : Type 0} (x : T) → (r : Option T) × (r ≡ Some x)
some_item x = (Some x, refl)

pub one_item : {T : Type 0} (x : T) (r q : Option T) → r ≡ Some x → q ≡ Some x → q ≡ r
one_item x r q is so = so ∙ sym is

module _ {Y B : Type 0} (Before : Option Y → Type 0) (Then : Y → Option B → Type 0) where
  some_after : ((y : Y) → (r : Option B) × Then y r) → (o : Option Y) → (r : Option B) × MakesOf Then o r
  some_after then None = (None, refl)
  some_after then (Some y) = then y

  one_after : ((y : Y) (r q : Option B) → Then y r → Then y q → q ≡ r) → (o : Option Y) (r q : Option B)
      → MakesOf Then o r → MakesOf Then o q → q ≡ r
  one_after one None r q is so = so ∙ sym is
  one_after one (Some y) r q is so = one y r q is so

  pub some_then : ((o : Option Y) × Before o) → ((y : Y) → (r : Option B) × Then y r) → (r : Option B) × GivesThen Before Then r
  some_then before then =
      let after = some_after then before.0 in
      (after.0, record { between = before.0; was = before.1; is = after.1 })

  pub one_then : ((o p : Option Y) → Before o → Before p → p ≡ o) → ((y : Y) (r q : Option B) → Then y r → Then y q → q ≡ r)
      → (r q : Option B) → GivesThen Before Then r → GivesThen Before Then q → q ≡ r
  one_then before then r q is so =
      one_after then is.between r q is.is (subst (λ o. MakesOf Then o q) (before is.between so.between is.was so.was) so.is)

module _ {Y B : Type 0} (Gives : Y → B → Type 0) where
  pub some_selected : ((y : Y) → (b : B) × Gives y b) → (y : Y) → (r : Option B) × Selects Gives y r
  some_selected some y = (Some (some y).0, record { value = (some y).0; given = (some y).1; is = refl })

  pub one_selected : ((y : Y) (b c : B) → Gives y b → Gives y c → c ≡ b) → (y : Y) (r q : Option B) → Selects Gives y r → Selects Gives y q
      → q ≡ r
  one_selected one y r q is so = so.is ∙ ap Some (one y is.value so.value is.given so.given) ∙ sym is.is

module _ {Y : Type 0} (Gives : Y → Bool → Type 0) where
  pub some_passed : ((y : Y) → (b : Bool) × Gives y b) → (y : Y) → (r : Option Y) × Passes Gives y r
  some_passed some y = (cond (some y).0 (Some y) None, record { passes = (some y).0; given = (some y).1; is = refl })

  pub one_passed : ((y : Y) (b c : Bool) → Gives y b → Gives y c → c ≡ b) → (y : Y) (r q : Option Y) → Passes Gives y r → Passes Gives y q
      → q ≡ r
  one_passed one y r q is so = so.is ∙ ap (λ b. cond b (Some y) None) (one y is.passes so.passes is.given so.given) ∙ sym is.is

-- ---- what closures make whose clauses say what they return: `f` before, and `g` or `p` of it

abbrev pub selected : {Y B : Type 0} → (Y → B) → Option Y → Option B
selected g None = None
selected g (Some y) = Some (g y)

abbrev pub passed : {Y : Type 0} → (Y → Bool) → Option Y → Option Y
passed p None = None
passed p (Some y) = cond (p y) (Some y) None

pub makes-selected : {Y B : Type 0} (Before : Option Y → Type 0) (Gives : Y → B → Type 0) (g : Y → B) → ((y : Y) → Gives y (g y)) → (o : Option Y)
    → Before o → GivesThen Before (Selects Gives) (selected g o)
makes-selected Before Gives g gives None was = record { between = None; was = was; is = refl }
makes-selected Before Gives g gives (Some y) was =
    record { between = Some y; was = was; is = record { value = g y; given = gives y; is = refl } }

pub makes-passed : {Y : Type 0} (Before : Option Y → Type 0) (Gives : Y → Bool → Type 0) (p : Y → Bool) → ((y : Y) → Gives y (p y)) → (o : Option Y)
    → Before o → GivesThen Before (Passes Gives) (passed p o)
makes-passed Before Gives p gives None was = record { between = None; was = was; is = refl }
makes-passed Before Gives p gives (Some y) was =
    record { between = Some y; was = was; is = record { passes = p y; given = gives y; is = refl } }

-- ---- worked rows

-- a select leaves nothing out, here of one more than 1
left_out_by_a_select : GivesThen (λ o. o ≡ Some 1) (Selects (λ y z. z ≡ y + 1)) None → ⊥
left_out_by_a_select given =
    let one : MakesOf (Selects (λ y z. z ≡ y + 1)) (Some 1) None = subst (λ o. MakesOf (Selects (λ y z. z ≡ y + 1)) o None) given.was given.is in
    absurd (let bad : ◌≡◌ {A = Option ℕ} None (Some one.value) = one.is in cc)

-- and makes nothing of what was left out before
made_of_nothing : GivesThen (λ o. o ≡ None) (Selects (λ y z. z ≡ y + 1)) (Some 1) → ⊥
made_of_nothing given =
    absurd (let bad : ◌≡◌ {A = Option ℕ} (Some 1) None = subst (λ o. MakesOf (Selects (λ y z. z ≡ y + 1)) o (Some 1)) given.was given.is in cc)

-- what fails a test isn't kept
kept_though_it_fails : GivesThen {Y = ℕ} {B = ℕ} (λ o. o ≡ Some 1) (Passes (λ y b. b ≡ false)) (Some 1) → ⊥
kept_though_it_fails given =
    let one : MakesOf {Y = ℕ} {B = ℕ} (Passes (λ y b. b ≡ false)) (Some 1) (Some 1) =
    subst (λ o. MakesOf (Passes (λ y b. b ≡ false)) o (Some 1)) given.was given.is in
    absurd (let bad : ◌≡◌ {A = Option ℕ} (Some 1) None = one.is ∙ ap (λ b. cond b (Some 1) None) one.given in cc)
