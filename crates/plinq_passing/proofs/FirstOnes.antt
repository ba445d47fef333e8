-- What a source says of which no more than the first items are asked for, and that nothing else is made of it.
use Rattle.std.specs.Prelude.{◌≡◌, ◌≢◌, refl, ℕ, zero, suc, ◌+◌, ◌-◌, ◌≤◌, ◌<◌, min, Bool, true, false, cond, is_some}
use Rattle.std.specs.Prelude.{Option, Some, None, List, [], ◌∷◌, take, drop, length}
use Rattle.std.specs.List.{filter_map, cons_option}
use Rattle.std.proofs.Common.{sym, ◌∙◌, ap, arith, subst, ltb}
use Rattle.std.proofs.lemmas.Bool.{lt-ltb, ltb-true, ltb-false}
use Rattle.std.proofs.lemmas.List.{drop-take, take-take, take_all, length-take}
use Rattle.plinq_source.specs.declared.ending.Ending.{Ending}
use Rattle.plinq_source.specs.declared.ending.Ending.TheVariants.{End}
use Rattle.plinq_source.specs.Trace.{Trace, step_of, step_at, items_from, ending_within, IsSourceEnding}
use Rattle.plinq_source.proofs.Filling.{given_ending}
use Rattle.plinq_steps.specs.Means.{reaches}
use Rattle.plinq_steps.specs.Enough.{IsEnough}
use Rattle.plinq_passing.specs.inner.Limits.{limited}
use Rattle.plinq_passing.specs.Ran.{ended_unless, left_trace}

module _ {T : Type 0} where
  reaches-behind : (g n m : ℕ) (xs : List T) → m ≡ g + n → g ≤ length xs → reaches m xs ≡ reaches n (drop g xs)
  reaches-behind zero n m xs sum few = ap (λ i. reaches i xs) (omega (arith, sum))
  reaches-behind (suc g) n zero xs sum few = absurd (omega (arith, sum))
  reaches-behind (suc g) n (suc m) [] sum few = absurd (omega (arith, few))
  reaches-behind (suc g) n (suc m) (x ∷ xs) sum few = reaches-behind g n m xs (omega (arith, sum)) (omega (arith, few))

  pub reaches-all : (n : ℕ) (xs : List T) → n ≤ length xs → reaches n xs ≡ true
  reaches-all zero xs few = refl
  reaches-all (suc n) [] few = absurd (omega (arith, few))
  reaches-all (suc n) (x ∷ xs) few = reaches-all n xs (omega (arith, few))

  pub reaches-less : (n : ℕ) (xs : List T) → length xs < n → reaches n xs ≡ false
  reaches-less zero xs less = absurd (omega (arith, less))
  reaches-less (suc n) [] less = refl
  reaches-less (suc n) (x ∷ xs) less = reaches-less n xs (omega (arith, less))

  pub reaches-true : (n : ℕ) (xs : List T) → reaches n xs ≡ true → n ≤ length xs
  reaches-true zero xs is = omega arith
  reaches-true (suc n) [] is = absurd (cc)
  reaches-true (suc n) (x ∷ xs) is = omega (arith, reaches-true n xs is)

  pub reaches-false : (n : ℕ) (xs : List T) → reaches n xs ≡ false → length xs < n
  reaches-false zero xs is = absurd (cc)
  reaches-false (suc n) [] is = omega arith
  reaches-false (suc n) (x ∷ xs) is = omega (arith, reaches-false n xs is)

  -- where items are left, the next one or the ending is as it was; else it ends
  step-left : (left : ℕ) (rest : List T) (e : Option Ending) → left ≢ 0
      → step_of (take left rest) (ended_unless (reaches left rest) e) ≡ step_of rest e
  step-left zero rest e some = absurd (some refl)
  step-left (suc left) [] e some = refl
  step-left (suc left) (x ∷ rest) e some = refl

  step-behind : (t : Trace T) (g left : ℕ) → g ≤ length t.items
      → step_at (limited (g + left) t) g ≡ step_of (take left (drop g t.items)) (ended_unless (reaches left (drop g t.items)) t.ending)
  step-behind t g left within =
      ap (λ xs. step_of xs (ended_unless (reaches (g + left) t.items) t.ending)) (drop-take g left t.items)
      ∙ ap (λ b. step_of (take left (drop g t.items)) (ended_unless b t.ending)) (reaches-behind g left (g + left) t.items refl within)

  pub step-limited : (t : Trace T) (g left : ℕ) → g ≤ length t.items → left ≢ 0 → step_at (limited (g + left) t) g ≡ step_at t g
  step-limited t g left within some = step-behind t g left within ∙ step-left left (drop g t.items) t.ending some

  pub step-none : (t : Trace T) (g left : ℕ) → g ≤ length t.items → left ≡ 0 → step_at (limited (g + left) t) g ≡ step_of [] (Some End)
  step-none t g left within none =
      step-behind t g left within ∙ ap (λ n. step_of (take n (drop g t.items)) (ended_unless (reaches n (drop g t.items)) t.ending)) none

  -- asked for several: no more of them than are left
  take-least : (n left : ℕ) (ys : List T) → take n (take left ys) ≡ take (min n left) ys
  take-least n left ys = by_test (ltb left n) refl
    where
      by_test : (b : Bool) → ltb left n ≡ b → take n (take left ys) ≡ take (min n left) ys
      by_test true less =
          take_all n (take left ys) (omega (arith, length-take left ys, ltb-true left n less)) ∙ ap (λ m. take m ys) (omega (arith, ltb-true left n less))
      by_test false more =
          let few : n ≤ left = ltb-false left n more in take-take n left ys few ∙ ap (λ m. take m ys) (omega (arith, few))

  pub items-limited : (t : Trace T) (g left n : ℕ) → items_from (limited (g + left) t) g n ≡ items_from t g (min n left)
  items-limited t g left n = ap (take n) (drop-take g left t.items) ∙ take-least n left (drop g t.items)

  -- an ending that comes before that stays
  pub ending-before : (t : Trace T) (g left n m : ℕ) (e : Ending) → m ≡ min n left → ending_within t g m ≡ Some e
      → ending_within (limited (g + left) t) g n ≡ Some e
  ending-before t g left n m e least is =
      let was = given_ending t g m e is in
      let less : reaches (g + left) t.items ≡ false = reaches-less (g + left) t.items (omega (arith, was.1, least)) in
      let fewer : ltb (length (take (g + left) t.items) - g) n ≡ true =
      lt-ltb (length (take (g + left) t.items) - g) n (omega (arith, was.1, least, length-take (g + left) t.items)) in
      ap (λ b. cond b (ended_unless (reaches (g + left) t.items) t.ending) None) fewer ∙ ap (λ b. ended_unless b t.ending) less ∙ was.0

  some-left : (t : Trace T) (g n : ℕ) → IsSourceEnding t.ending → ending_within t g n ≡ None → n ≤ length t.items - g
  some-left t g n ends is = by_test (ltb (length t.items - g) n) refl is
    where
      by_test : (b : Bool) → ltb (length t.items - g) n ≡ b → cond b t.ending None ≡ None → n ≤ length t.items - g
      by_test true less none = absurd (subst IsSourceEnding none ends)
      by_test false more none = ltb-false (length t.items - g) n more

  -- else it ends well once none are left
  pub ending-limited : (t : Trace T) (g left n : ℕ) → IsSourceEnding t.ending → g ≤ length t.items → ending_within t g left ≡ None → left < n
      → ending_within (limited (g + left) t) g n ≡ Some End
  ending-limited t g left n ends within none less =
      let more : left ≤ length t.items - g = some-left t g left ends none in
      let all : reaches (g + left) t.items ≡ true = reaches-all (g + left) t.items (omega (arith, more, within)) in
      let fewer : ltb (length (take (g + left) t.items) - g) n ≡ true =
      lt-ltb (length (take (g + left) t.items) - g) n (omega (arith, less, length-take (g + left) t.items)) in
      ap (λ b. cond b (ended_unless (reaches (g + left) t.items) t.ending) None) fewer ∙ ap (λ b. ended_unless b t.ending) all

module _ {T B : Type 0} (f : T → Option B) where
  take-one : (n : ℕ) (o : Option B) (xs : List T) (ys : List B) → is_some o ≡ true → filter_map f (take n xs) ≡ take n ys
      → cons_option o (filter_map f (take n xs)) ≡ take (suc n) (cons_option o ys)
  take-one n None xs ys is rest = absurd (cc)
  take-one n (Some y) xs ys is rest = ap (λ zs. y ∷ zs) rest

  -- what keeps all goes item by item
  keeps-take : ((x : T) → is_some (f x) ≡ true) → (n : ℕ) (xs : List T) → filter_map f (take n xs) ≡ take n (filter_map f xs)
  keeps-take all zero xs = refl
  keeps-take all (suc n) [] = refl
  keeps-take all (suc n) (x ∷ xs) = take-one n (f x) xs (filter_map f xs) (all x) (keeps-take all n xs)

  one-more : (o : Option B) (ys : List B) → is_some o ≡ true → length (cons_option o ys) ≡ suc (length ys)
  one-more None ys is = absurd (cc)
  one-more (Some y) ys is = refl

  keeps-length : ((x : T) → is_some (f x) ≡ true) → (xs : List T) → length (filter_map f xs) ≡ length xs
  keeps-length all [] = refl
  keeps-length all (x ∷ xs) = omega (arith, one-more (f x) (filter_map f xs) (all x), keeps-length all xs)

ends-well : (b : Bool) → ended_unless b (Some End) ≡ Some End
ends-well true = refl
ends-well false = refl

traces : {C : Type 0} (xs ys : List C) (e e' : Option Ending) → xs ≡ ys → e ≡ e'
    → ◌≡◌ {A = Trace C} (record { items = xs; ending = e }) (record { items = ys; ending = e' })
traces xs ys e e' same ends = ap (λ zs. record { items = zs; ending = e }) same ∙ ap (λ o. record { items = ys; ending = o }) ends

-- of a source of no more items nothing is lost
pub whole-limited : {T : Type 0} (n : ℕ) (t : Trace T) → length t.items < n → limited n t ≡ t
whole-limited n t less =
    traces (take n t.items) t.items (ended_unless (reaches n t.items) t.ending) t.ending (take_all n t.items (omega (arith, less)))
    (ap (λ b. ended_unless b t.ending) (reaches-less n t.items less))

module _ {T B C : Type 0} (f : T → Option B) (g : List B → List C) (d : List B → Bool) where
  pub limited-left : (Means : (List B → List C) → (List B → Bool) → Type 0) → Means g d → ((x : T) → is_some (f x) ≡ true) → (n : ℕ)
      → IsEnough Means n → (t : Trace T) → left_trace f g d (limited n t) ≡ left_trace f g d t
  limited-left Means means all n enough t = by_test (reaches n t.items) refl
    where
      by_test : (b : Bool) → reaches n t.items ≡ b → left_trace f g d (limited n t) ≡ left_trace f g d t
      by_test true is =
          let few : n ≤ length t.items = reaches-true n t.items is in
          let same : length (filter_map f t.items) ≡ length t.items = keeps-length f all t.items in
          let end = enough g d means (filter_map f t.items) (omega (arith, few, same)) in
          traces (g (filter_map f (take n t.items))) (g (filter_map f t.items))
          (ended_unless (d (filter_map f (take n t.items))) (ended_unless (reaches n t.items) t.ending))
          (ended_unless (d (filter_map f t.items)) t.ending)
          (ap g (keeps-take f all n t.items) ∙ sym end.0)
          (ap (λ b. ended_unless (d (filter_map f (take n t.items))) (ended_unless b t.ending)) is ∙ ends-well (d (filter_map f (take n t.items)))
          ∙ sym (ap (λ b. ended_unless b t.ending) end.1))
      by_test false is = ap (left_trace f g d) (whole-limited n t (reaches-false n t.items is))
