-- What steps that go by position make of a list, item by item.
use Rattle.std.specs.Prelude.{◌≡◌, refl, ℕ, zero, suc, ◌-◌, ◌≤◌, Bool, true, false, cond, not, ◌||◌, nat_eq, nat_lt}
use Rattle.std.specs.Prelude.{Option, Some, None, List, [], ◌∷◌, take, drop, length}
use Rattle.std.specs.List.{filter_map, cons_option}
use Rattle.std.proofs.Common.{sym, ◌∙◌, ap, subst, arith}
use Rattle.std.proofs.Math.Dec.{eqb-suc-zero}
use Rattle.plinq_steps.specs.Makes.{MakesOf}

-- ---- the words of lists

-- a list has so many items
abbrev pub reaches : {T : Type 0} → ℕ → List T → Bool
reaches zero xs = true
reaches (suc n) [] = false
reaches (suc n) (x ∷ xs) = reaches n xs

module _ {T : Type 0} (p : T → Bool) where
  -- the items before the first that fails
  abbrev pub take_while : List T → List T
  take_while [] = []
  take_while (x ∷ xs) = cond (p x) (x ∷ take_while xs) []

  -- the first that fails, and all after it
  abbrev pub skip_while : List T → List T
  skip_while [] = []
  skip_while (x ∷ xs) = cond (p x) (skip_while xs) (x ∷ xs)

  -- one fails
  abbrev pub some_fails : List T → Bool
  some_fails [] = false
  some_fails (x ∷ xs) = cond (p x) (some_fails xs) true

-- no list decides it
abbrev pub undecided : {T : Type 0} → List T → Bool
undecided xs = false

-- nothing more is made
abbrev pub nothing : {T B : Type 0} → List T → List B
nothing xs = []

-- whatever comes, it is decided
abbrev pub decided : {T : Type 0} → List T → Bool
decided xs = true

-- ---- one item after another

module _ {A B : Type 0} where
  -- what is made of a list that begins with this item is this, and then what is made of the rest
  pub record GoesOn (Means : (List A → List B) → (List A → Bool) → Type 0) (g : List A → List B) (d : List A → Bool) (x : A) (o : Option B) : Type 0 where
    pub rest : List A → List B
    pub decides : List A → Bool
    pub means : Means rest decides
    pub makes : (xs : List A) → g (x ∷ xs) ≡ cons_option o (rest xs)
    pub decided : (xs : List A) → d (x ∷ xs) ≡ decides xs

-- of a list is made what `F` makes of what was made of it before, and it is decided if that was, or `D` says so of it
pub record Follows {A B C : Type 0} (Before : (List A → List B) → (List A → Bool) → Type 0) (F : List B → List C) (D : List B → Bool)
    (g : List A → List C) (d : List A → Bool) : Type 0 where
  pub made : List A → List B
  pub decides : List A → Bool
  pub was : Before made decides
  pub makes : (xs : List A) → g xs ≡ F (made xs)
  pub decided : (xs : List A) → d xs ≡ (D (made xs) || decides xs)

-- the same where a closure, or steps, may give this function
pub record FollowsBy {A B C Y : Type 0} (Gives : B → Y → Type 0) (Before : (List A → List B) → (List A → Bool) → Type 0)
    (F : (B → Y) → List B → List C) (D : (B → Y) → List B → Bool) (g : List A → List C) (d : List A → Bool) : Type 0 where
  pub by : B → Y
  pub gives : (y : B) → Gives y (by y)
  pub follows : Follows Before (F by) (D by) g d

-- ---- what one of them may do with what was made of an item before

module _ {Y : Type 0} where
  -- how many are left
  abbrev pub left_after : ℕ → Option Y → ℕ
  left_after left None = left
  left_after left (Some y) = left - 1

  abbrev pub if_left : ℕ → Option Y → Option Y
  if_left left None = None
  if_left left (Some y) = cond (nat_eq left 0) None (Some y)

  abbrev pub if_none_left : ℕ → Option Y → Option Y
  if_none_left left None = None
  if_none_left left (Some y) = cond (nat_eq left 0) (Some y) None

  module _ (Gives : Y → Bool → Type 0) where
    -- it is taken if it passes, and else that is the end
    pub record TakesIf (y : Y) (over : Bool) (r : Option Y) (over' : Bool) : Type 0 where
      pub passes : Bool
      pub given : Gives y passes
      pub is : r ≡ cond passes (Some y) None
      pub then : over' ≡ cond passes over true

    abbrev pub TakesWhile : Option Y → Bool → Option Y → Bool → Type 0
    TakesWhile None over r over' = (r ≡ None) × (over' ≡ over)
    TakesWhile (Some y) over r over' = TakesIf y over r over'

    -- it is skipped if it passes, and from then on nothing is
    pub record SkipsIf (y : Y) (r : Option Y) (past' : Bool) : Type 0 where
      pub passes : Bool
      pub given : Gives y passes
      pub is : r ≡ cond passes None (Some y)
      pub then : past' ≡ not passes

    abbrev pub SkipsWhile : Option Y → Bool → Option Y → Bool → Type 0
    SkipsWhile None past r past' = (r ≡ None) × (past' ≡ past)
    SkipsWhile (Some y) true r past' = (r ≡ Some y) × (past' ≡ true)
    SkipsWhile (Some y) false r past' = SkipsIf y r past'

-- what was made before, and then this of it
pub record Turns {P Y B : Type 0} (Before : Option Y → P → Type 0) (Then : Option Y → Option B → Type 0) (r : Option B) (t : P) : Type 0 where
  pub between : Option Y
  pub was : Before between t
  pub is : Then between r

-- ---- the laws

-- with what was made of an item, these go on as those
pub record Turn {B C : Type 0} (F : List B → List C) (D : List B → Bool) (o : Option B) (r : Option C) (F' : List B → List C) (D' : List B → Bool) : Type 0
  where
    pub makes : (ys : List B) → F (cons_option o ys) ≡ cons_option r (F' ys)
    pub decided : (ys : List B) → D (cons_option o ys) ≡ D' ys

module _ {A B C : Type 0} {Before After : (List A → List B) → (List A → Bool) → Type 0} {F F' : List B → List C} {D D' : List B → Bool} where
  pub goes_on : (g : List A → List C) (d : List A → Bool) (x : A) (o : Option B) (r : Option C) (s : Follows Before F D g d)
      → GoesOn After s.made s.decides x o → Turn F D o r F' D' → GoesOn (Follows After F' D') g d x r
  goes_on g d x o r s on turn =
      record {
        rest = λ xs. F' (on.rest xs);
        decides = λ xs. D' (on.rest xs) || on.decides xs;
        means = record { made = on.rest; decides = on.decides; was = on.means; makes = λ xs. refl; decided = λ xs. refl };
        makes = λ xs. s.makes (x ∷ xs) ∙ ap F (on.makes xs) ∙ turn.makes (on.rest xs);
        decided = λ xs.
            s.decided (x ∷ xs) ∙ ap (λ ys. D ys || s.decides (x ∷ xs)) (on.makes xs) ∙ ap (λ b. b || s.decides (x ∷ xs)) (turn.decided (on.rest xs))
            ∙ ap (λ b. D' (on.rest xs) || b) (on.decided xs);
      }

not_none : (n : ℕ) → nat_eq (suc n) 0 ≡ false
not_none n = eqb-suc-zero n

one_less : (n : ℕ) → suc n - 1 ≡ n
one_less n = omega arith

module _ {Y : Type 0} where
  -- as many as are left are taken
  take_turn : (n : ℕ) (o : Option Y) → nat_eq n 0 ≡ false → Turn (take n) (reaches n) o (if_left n o) (take (left_after n o)) (reaches (left_after n o))
  take_turn n None some = record { makes = λ ys. refl; decided = λ ys. refl }
  take_turn zero (Some y) some = absurd (cc)
  take_turn (suc n) (Some y) some =
      record {
        makes = λ ys.
            ap (λ m. y ∷ take m ys) (sym (one_less n)) ∙ ap (λ b. cons_option (cond b None (Some y)) (take (suc n - 1) ys)) (sym (not_none n));
        decided = λ ys. ap (λ m. reaches m ys) (sym (one_less n));
      }

  -- as many as are left are skipped
  skip_turn : (n : ℕ) (o : Option Y) → Turn (drop n) undecided o (if_none_left n o) (drop (left_after n o)) undecided
  skip_turn n None = record { makes = λ ys. refl; decided = λ ys. refl }
  skip_turn zero (Some y) = record { makes = λ ys. refl; decided = λ ys. refl }
  skip_turn (suc n) (Some y) =
      record {
        makes = λ ys.
            ap (λ m. drop m ys) (sym (one_less n)) ∙ ap (λ b. cons_option (cond b (Some y) None) (drop (suc n - 1) ys)) (sym (not_none n));
        decided = λ ys. refl;
      }

-- ---- what holds of all of them

pub or_left : (a b : Bool) → (a || b) ≡ false → a ≡ false
or_left false b is = refl
or_left true b is = absurd (cc)

pub or_right : (a b : Bool) → (a || b) ≡ false → b ≡ false
or_right false b is = is
or_right true b is = absurd (cc)

pub or_true : (a : Bool) → (a || true) ≡ true
or_true false = refl
or_true true = refl

module _ {A B C : Type 0} {Before : (List A → List B) → (List A → Bool) → Type 0} where
  module _ {F : List B → List C} {D : List B → Bool} (g : List A → List C) (d : List A → Bool) (s : Follows Before F D g d) where
    pub follows_on : {P : Type 0} {t : P} {Turned : Option B → P → Type 0} {Then : Option B → Option C → Type 0} {F' : List B → List C}
        {D' : List B → Bool} {After : (List A → List B) → (List A → Bool) → Type 0} (x : A) (r : Option C)
        → ((h : List A → List B) (e : List A → Bool) → Before h e → (o : Option B) → Turned o t → GoesOn After h e x o)
        → ((o : Option B) → Then o r → Turn F D o r F' D') → Turns Turned Then r t → GoesOn (Follows After F' D') g d x r
    follows_on x r on turn is = goes_on g d x is.between r s (on s.made s.decides s.was is.between is.was) (turn is.between is.is)

    -- nothing is made if nothing was made before
    pub follows_at_end : F [] ≡ [] → (xs : List A)
        → ((h : List A → List B) (e : List A → Bool) → Before h e → (h xs ≡ []) × (e xs ≡ true)) → (g xs ≡ []) × (d xs ≡ true)
    follows_at_end none xs end =
        let was = end s.made s.decides s.was in (
          s.makes xs ∙ ap F was.0 ∙ none,
          s.decided xs ∙ ap (λ b. D (s.made xs) || b) was.1 ∙ or_true (D (s.made xs)),
        )

    -- nothing more is made of anything
    pub follows_ended : ((ys : List B) → F ys ≡ []) → ((ys : List B) → D ys ≡ true) → (xs : List A) → (g xs ≡ []) × (d xs ≡ true)
    follows_ended none all xs = (s.makes xs ∙ none (s.made xs), s.decided xs ∙ ap (λ b. b || s.decides xs) (all (s.made xs)))

    pub follows_of_none : F [] ≡ [] → D [] ≡ false
        → ((h : List A → List B) (e : List A → Bool) → Before h e → (h [] ≡ []) × (e [] ≡ false)) → (g [] ≡ []) × (d [] ≡ false)
    follows_of_none none more before =
        let was = before s.made s.decides s.was in (
          s.makes [] ∙ ap F was.0 ∙ none,
          s.decided [] ∙ ap (λ ys. D ys || s.decides []) was.0 ∙ ap (λ b. b || s.decides []) more ∙ was.1,
        )

    -- no more is made than there was
    pub follows_few : ((ys : List B) → length (F ys) ≤ length ys) → (xs : List A)
        → ((h : List A → List B) (e : List A → Bool) → Before h e → length (h xs) ≤ length xs) → length (g xs) ≤ length xs
    follows_few short xs before = omega (arith, ap length (s.makes xs), short (s.made xs), before s.made s.decides s.was)

module _ {Y : Type 0} where
  pub take_few : (n : ℕ) (ys : List Y) → length (take n ys) ≤ length ys
  take_few zero ys = omega arith
  take_few (suc n) [] = omega arith
  take_few (suc n) (y ∷ ys) = omega (arith, take_few n ys)

  pub drop_few : (n : ℕ) (ys : List Y) → length (drop n ys) ≤ length ys
  drop_few zero ys = omega arith
  drop_few (suc n) [] = omega arith
  drop_few (suc n) (y ∷ ys) = omega (arith, drop_few n ys)

-- ---- all items as they come

pub not_ended : {A : Type 0} → false ≡ true → A
not_ended is = absurd (cc)

module _ {T : Type 0} where
  abbrev pub Unchanged : (List T → List T) → (List T → Bool) → Type 0
  Unchanged g d = ((xs : List T) → g xs ≡ xs) × ((xs : List T) → d xs ≡ false)

  pub unchanged_on : (g : List T → List T) (d : List T → Bool) → Unchanged g d → (x : T) (o : Option T) → o ≡ Some x → GoesOn Unchanged g d x o
  unchanged_on g d means x o is =
      record {
        rest = λ xs. xs;
        decides = undecided;
        means = (λ xs. refl, λ xs. refl);
        makes = λ xs. means.0 (x ∷ xs) ∙ ap (λ o. cons_option o xs) (sym is);
        decided = λ xs. means.1 (x ∷ xs);
      }

module _ {T : Type 0} where
  pub unchanged_few : (g : List T → List T) (d : List T → Bool) → Unchanged g d → (xs : List T) → length (g xs) ≤ length xs
  unchanged_few g d means xs = omega (arith, ap length (means.0 xs))

-- ---- the first ones, as many as are left

pub open_of_none : (Y : Type 0) (n : ℕ) (eb : Bool) → (nat_eq n 0 || eb) ≡ false → reaches {T = Y} n [] ≡ false
open_of_none Y zero eb more = absurd (cc)
open_of_none Y (suc n) eb more = refl

module _ {Y : Type 0} where
  pub takes_on : (n n' : ℕ) (eb : Bool) (r : Option Y) → (nat_eq n 0 || eb) ≡ false → (o : Option Y) → (r ≡ if_left n o) × (n' ≡ left_after n o)
      → Turn (take n) (reaches n) o r (take n') (reaches n')
  takes_on n n' eb r more o is =
      subst (λ m. Turn (take n) (reaches n) o r (take m) (reaches m)) (sym is.1)
      (subst (λ q. Turn (take n) (reaches n) o q (take (left_after n o)) (reaches (left_after n o))) (sym is.0) (take_turn n o (or_left (nat_eq n 0) eb more)))

  pub skips_on : (n n' : ℕ) (r : Option Y) (o : Option Y) → (r ≡ if_none_left n o) × (n' ≡ left_after n o)
      → Turn (drop n) undecided o r (drop n') undecided
  skips_on n n' r o is =
      subst (λ m. Turn (drop n) undecided o r (drop m) undecided) (sym is.1)
      (subst (λ q. Turn (drop n) undecided o q (drop (left_after n o)) undecided) (sym is.0) (skip_turn n o))

  pub take_of_none : (n : ℕ) → ◌≡◌ {A = List Y} (take n []) []
  take_of_none zero = refl
  take_of_none (suc n) = refl

  pub drop_of_none : (n : ℕ) → ◌≡◌ {A = List Y} (drop n []) []
  drop_of_none zero = refl
  drop_of_none (suc n) = refl

module _ {A B : Type 0} (Before : (List A → List B) → (List A → Bool) → Type 0) where
  pub taken_at_end : (n : ℕ) (eb : Bool) → (nat_eq n 0 || eb) ≡ true → (g : List A → List B) (d : List A → Bool)
      → Follows Before (take n) (reaches n) g d → (xs : List A)
      → (eb ≡ true → (h : List A → List B) (e : List A → Bool) → Before h e → (h xs ≡ []) × (e xs ≡ true)) → (g xs ≡ []) × (d xs ≡ true)
  taken_at_end zero eb ended g d s xs end = follows_ended g d s (λ ys. refl) (λ ys. refl) xs
  taken_at_end (suc n) eb ended g d s xs end = follows_at_end g d s refl xs (end (sym (ap (λ b. b || eb) (not_none n)) ∙ ended))

-- ---- those before the first that fails, and those from it on

cond_true : {B : Type 0} (b : Bool) (x y : B) → b ≡ true → cond b x y ≡ x
cond_true b x y is = ap (λ c. cond c x y) is

-- a closure gives this and no other
given_one : {Y : Type 0} (Gives : Y → Bool → Type 0) (p : Y → Bool) → ((y : Y) → Gives y (p y))
    → ((y : Y) (b c : Bool) → Gives y b → Gives y c → c ≡ b) → (y : Y) (b : Bool) → Gives y b → p y ≡ b
given_one Gives p gives one y b is = one y b (p y) is (gives y)

module _ {Y : Type 0} where
  -- what is left once it is over, or before
  abbrev pub taking_while : Bool → (Y → Bool) → List Y → List Y
  taking_while over p ys = cond over [] (take_while p ys)

  abbrev pub failed : Bool → (Y → Bool) → List Y → Bool
  failed over p ys = cond over true (some_fails p ys)

  abbrev pub skipping_while : Bool → (Y → Bool) → List Y → List Y
  skipping_while past p ys = cond past ys (skip_while p ys)

  abbrev pub never : (Y → Bool) → List Y → Bool
  never p ys = false

  taken_if : (p : Y → Bool) (y : Y) (b : Bool) → p y ≡ b
      → Turn (taking_while false p) (failed false p) (Some y) (cond b (Some y) None) (taking_while (cond b false true) p) (failed (cond b false true) p)
  taken_if p y true is = record { makes = λ ys. ap (λ b. cond b (y ∷ take_while p ys) []) is; decided = λ ys. ap (λ b. cond b (some_fails p ys) true) is }
  taken_if p y false is = record { makes = λ ys. ap (λ b. cond b (y ∷ take_while p ys) []) is; decided = λ ys. ap (λ b. cond b (some_fails p ys) true) is }

  skipped_if : (p : Y → Bool) (y : Y) (b : Bool) → p y ≡ b
      → Turn (skipping_while false p) (never p) (Some y) (cond b None (Some y)) (skipping_while (not b) p) (never p)
  skipped_if p y true is = record { makes = λ ys. ap (λ b. cond b (skip_while p ys) (y ∷ ys)) is; decided = λ ys. refl }
  skipped_if p y false is = record { makes = λ ys. ap (λ b. cond b (skip_while p ys) (y ∷ ys)) is; decided = λ ys. refl }

  module _ (Gives : Y → Bool → Type 0) (p : Y → Bool) (gives : (y : Y) → Gives y (p y)) (one : (y : Y) (b c : Bool) → Gives y b → Gives y c → c ≡ b) where
    pub takes_while_on : (over over' eb : Bool) (r o : Option Y) → (over || eb) ≡ false → TakesWhile Gives o over r over'
        → Turn (taking_while over p) (failed over p) o r (taking_while over' p) (failed over' p)
    takes_while_on true over' eb r o more is = absurd (cc)
    takes_while_on false over' eb r None more is =
        subst (λ v. Turn (taking_while false p) (failed false p) None r (taking_while v p) (failed v p)) (sym is.1)
        (subst (λ q. Turn (taking_while false p) (failed false p) None q (taking_while false p) (failed false p)) (sym is.0)
        (record { makes = λ ys. refl; decided = λ ys. refl }))
    takes_while_on false over' eb r (Some y) more is =
        subst (λ v. Turn (taking_while false p) (failed false p) (Some y) r (taking_while v p) (failed v p)) (sym is.then)
        (subst (λ q. Turn (taking_while false p) (failed false p) (Some y) q (taking_while (cond is.passes false true) p)
        (failed (cond is.passes false true) p)) (sym is.is) (taken_if p y is.passes (given_one Gives p gives one y is.passes is.given)))

    pub skips_while_on : (past past' : Bool) (r o : Option Y) → SkipsWhile Gives o past r past'
        → Turn (skipping_while past p) (never p) o r (skipping_while past' p) (never p)
    skips_while_on past past' r None is =
        subst (λ v. Turn (skipping_while past p) (never p) None r (skipping_while v p) (never p)) (sym is.1)
        (subst (λ q. Turn (skipping_while past p) (never p) None q (skipping_while past p) (never p)) (sym is.0)
        (record { makes = λ ys. refl; decided = λ ys. refl }))
    skips_while_on true past' r (Some y) is =
        subst (λ v. Turn (skipping_while true p) (never p) (Some y) r (skipping_while v p) (never p)) (sym is.1)
        (subst (λ q. Turn (skipping_while true p) (never p) (Some y) q (skipping_while true p) (never p)) (sym is.0)
        (record { makes = λ ys. refl; decided = λ ys. refl }))
    skips_while_on false past' r (Some y) is =
        subst (λ v. Turn (skipping_while false p) (never p) (Some y) r (skipping_while v p) (never p)) (sym is.then)
        (subst (λ q. Turn (skipping_while false p) (never p) (Some y) q (skipping_while (not is.passes) p) (never p)) (sym is.is)
        (skipped_if p y is.passes (given_one Gives p gives one y is.passes is.given)))

module _ {A B C Y : Type 0} {Before : (List A → List B) → (List A → Bool) → Type 0} {Gives : B → Y → Type 0} {F : (B → Y) → List B → List C}
    {D : (B → Y) → List B → Bool} {g : List A → List C} {d : List A → Bool} (s : FollowsBy Gives Before F D g d) where
  -- a closure stays the same from item to item
  pub by_on : {P : Type 0} (Gives' : B → Y → Type 0) {t : P} {Turned : Option B → P → Type 0} {Then : Option B → Option C → Type 0}
      {F' : (B → Y) → List B → List C} {D' : (B → Y) → List B → Bool} {After : (List A → List B) → (List A → Bool) → Type 0} {x : A} {r : Option C}
      → ((y : B) (b : Y) → Gives y b → Gives' y b)
      → ((h : List A → List B) (e : List A → Bool) → Before h e → (o : Option B) → Turned o t → GoesOn After h e x o)
      → ((o : Option B) → Then o r → Turn (F s.by) (D s.by) o r (F' s.by) (D' s.by)) → Turns Turned Then r t
      → GoesOn (FollowsBy Gives' After F' D') g d x r
  by_on Gives' same on turn is =
      let on = follows_on g d s.follows _ _ on turn is in
      record {
        rest = on.rest;
        decides = on.decides;
        means = record { by = s.by; gives = λ y. same y (s.by y) (s.gives y); follows = on.means };
        makes = on.makes;
        decided = on.decided;
      }

module _ {Y : Type 0} (p : Y → Bool) where
  taken_few : (b : Bool) (y : Y) (rest ys : List Y) → length rest ≤ length ys → length (cond b (y ∷ rest) []) ≤ length (y ∷ ys)
  taken_few true y rest ys few = omega (arith, few)
  taken_few false y rest ys few = omega arith

  take_while_few : (ys : List Y) → length (take_while p ys) ≤ length ys
  take_while_few [] = omega arith
  take_while_few (y ∷ ys) = taken_few (p y) y (take_while p ys) ys (take_while_few ys)

  pub taking_few : (over : Bool) (ys : List Y) → length (taking_while over p ys) ≤ length ys
  taking_few true ys = omega arith
  taking_few false ys = take_while_few ys

  skipped_few : (b : Bool) (y : Y) (rest ys : List Y) → length rest ≤ length ys → length (cond b rest (y ∷ ys)) ≤ length (y ∷ ys)
  skipped_few true y rest ys few = omega (arith, few)
  skipped_few false y rest ys few = omega arith

  skip_while_few : (ys : List Y) → length (skip_while p ys) ≤ length ys
  skip_while_few [] = omega arith
  skip_while_few (y ∷ ys) = skipped_few (p y) y (skip_while p ys) ys (skip_while_few ys)

  pub skipping_few : (past : Bool) (ys : List Y) → length (skipping_while past p ys) ≤ length ys
  skipping_few true ys = omega arith
  skipping_few false ys = skip_while_few ys

module _ {Y : Type 0} where
  pub skipping_of_none : (past : Bool) (p : Y → Bool) → skipping_while past p [] ≡ []
  skipping_of_none true p = refl
  skipping_of_none false p = refl

module _ {A B : Type 0} {Before : (List A → List B) → (List A → Bool) → Type 0} (p : B → Bool) {g : List A → List B} {d : List A → Bool} where
  pub taken_while_at_end : (over eb : Bool) → (over || eb) ≡ true → Follows Before (taking_while over p) (failed over p) g d → (xs : List A)
      → (eb ≡ true → (h : List A → List B) (e : List A → Bool) → Before h e → (h xs ≡ []) × (e xs ≡ true)) → (g xs ≡ []) × (d xs ≡ true)
  taken_while_at_end true eb ended s xs end = follows_ended g d s (λ ys. refl) (λ ys. refl) xs
  taken_while_at_end false eb ended s xs end = follows_at_end g d s refl xs (end ended)

  pub taken_while_of_none : (over eb : Bool) → (over || eb) ≡ false → Follows Before (taking_while over p) (failed over p) g d
      → ((h : List A → List B) (e : List A → Bool) → Before h e → (h [] ≡ []) × (e [] ≡ false)) → (g [] ≡ []) × (d [] ≡ false)
  taken_while_of_none true eb more s before = absurd (cc)
  taken_while_of_none false eb more s before = follows_of_none g d s refl refl before

-- ---- what other steps make of each

module _ {B C : Type 0} where
  abbrev pub keeping : (B → Option C) → List B → List C
  keeping f ys = filter_map f ys

  abbrev pub kept_open : (B → Option C) → List B → Bool
  kept_open f ys = false

  pub keeps_on : (Gives : B → Option C → Type 0) (f : B → Option C) → ((y : B) → Gives y (f y))
      → ((y : B) (b c : Option C) → Gives y b → Gives y c → c ≡ b) → (r : Option C) (o : Option B) → MakesOf Gives o r
      → Turn (keeping f) (kept_open f) o r (keeping f) (kept_open f)
  keeps_on Gives f gives one r None is = record { makes = λ ys. ap (λ o. cons_option o (filter_map f ys)) (sym is); decided = λ ys. refl }
  keeps_on Gives f gives one r (Some y) is =
      record { makes = λ ys. ap (λ o. cons_option o (filter_map f ys)) (one y r (f y) is (gives y)); decided = λ ys. refl }

  option_few : (o : Option C) (cs : List C) (ys : List B) (y : B) → length cs ≤ length ys → length (cons_option o cs) ≤ length (y ∷ ys)
  option_few None cs ys y few = omega (arith, few)
  option_few (Some c) cs ys y few = omega (arith, few)

  pub keeping_few : (f : B → Option C) (ys : List B) → length (keeping f ys) ≤ length ys
  keeping_few f [] = omega arith
  keeping_few f (y ∷ ys) = option_few (f y) (filter_map f ys) ys y (keeping_few f ys)

-- ---- worked rows

pair_of_four : take_while (λ n. nat_lt n 3) (1 ∷ 2 ∷ 9 ∷ 1 ∷ []) ≡ 1 ∷ 2 ∷ []
pair_of_four = refl

rest_of_four : skip_while (λ n. nat_lt n 3) (1 ∷ 2 ∷ 9 ∷ 1 ∷ []) ≡ 9 ∷ 1 ∷ []
rest_of_four = refl

-- two of two are all that were wanted: nothing that comes later counts
enough : reaches {T = ℕ} 2 (4 ∷ 5 ∷ []) ≡ true
enough = refl

too_few : reaches {T = ℕ} 3 (4 ∷ 5 ∷ []) ≡ true → ⊥
too_few is = absurd (let bad : ◌≡◌ {A = Bool} false true = is in cc)

-- all but the first, and of those the first
second_alone : Follows {A = ℕ} {B = ℕ} {C = ℕ} (Follows Unchanged (drop 1) undecided) (take 1) (reaches 1)
    (λ xs. take 1 (drop 1 xs)) (λ xs. reaches 1 (drop 1 xs) || (false || false))
second_alone =
    record {
      made = drop 1;
      decides = λ xs. false || false;
      was = record { made = λ xs. xs; decides = undecided; was = (λ xs. refl, λ xs. refl); makes = λ xs. refl; decided = λ xs. refl };
      makes = λ xs. refl;
      decided = λ xs. refl;
    }

-- not the first, of which nothing is said to be left
first_though_skipped : (d : List ℕ → Bool) → Follows {A = ℕ} {B = ℕ} {C = ℕ} Unchanged (drop 1) undecided (λ xs. xs) d → ⊥
first_though_skipped d follows =
    absurd (let bad : ◌≡◌ {A = List ℕ} (4 ∷ []) [] = follows.makes (4 ∷ []) ∙ ap (drop 1) (follows.was.0 (4 ∷ [])) in cc)
