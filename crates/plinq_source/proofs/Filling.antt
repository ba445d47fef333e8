-- Filling a list: each item that the source gives comes after those taken, and where it ends, all that is left was taken.
use Rattle.std.proofs.Common.{◌≡◌, ℕ, List, ◌+◌, ◌-◌, ◌<◌, ◌≤◌, [], ◌∷◌, ◌++◌, length, take, drop, Some, None, Bool, cond, ltb, true, false, refl}
use Rattle.std.proofs.Common.{arith, ap, sym, ◌∙◌, length-drop, vec_len, vec_capacity}
use Rattle.std.proofs.lemmas.Bool.{lt-ltb, le-ltb, ltb-true}
use Rattle.std.proofs.lemmas.List.{append_assoc, drop-drop, take_all, length-take-le}
use Rattle.std.proofs.Math.Seq.{take-add}
use Rattle.std.specs.Global.{Vec}
use Rattle.plinq_source.specs.Trace.{Trace, step_at, items_from, ending_within}
use Rattle.plinq_source.specs.declared.ending.Ending.{Ending}
use Rattle.plinq_source.specs.declared.step.Step.TheVariants.{Item}
use Rattle.plinq_source.proofs.Steps.{step_of-item}

items_from-more : {T : Type 0} (t : Trace T) (g m : ℕ) (x : T) → step_at t (g + m) ≡ Item x → items_from t g (m + 1) ≡ items_from t g m ++ x ∷ []
items_from-more t g m x h =
    let next = step_of-item (drop (g + m) t.items) t.ending x h in
    take-add m 1 (drop g t.items) ∙ ap (λ ys. items_from t g m ++ take 1 ys) (drop-drop m g t.items ∙ next.1)

-- one item more was added to a list
pub filled-more : {T : Type 0} (t : Trace T) (g m : ℕ) (before now after : List T) (x : T) → step_at t (g + m) ≡ Item x
    → now ≡ before ++ items_from t g m → after ≡ now ++ x ∷ [] → after ≡ before ++ items_from t g (m + 1)
filled-more t g m before now after x step filled added =
    added ∙ ap (λ xs. xs ++ x ∷ []) filled ∙ append_assoc before (items_from t g m) (x ∷ []) ∙ ap (λ xs. before ++ xs) (sym (items_from-more t g m x step))

-- a loop over the places from g on stands before this one: it added the items of those before
pub record IsFilled {T : Type 0} (t : Trace T) (g place : ℕ) (before now : Vec T) : Type 0 where
  pub filled : now.items ≡ before.items ++ items_from t g (place - g)
  pub counted : vec_len now + g ≡ vec_len before + place
  pub capacity : vec_capacity now ≡ vec_capacity before
  pub from : g ≤ place

-- and it adds that of this place
pub filled_on : {T : Type 0} (t : Trace T) (g place : ℕ) (before now after : Vec T) (x : T) → IsFilled t g place before now → step_at t place ≡ Item x
    → after.items ≡ now.items ++ x ∷ [] → vec_len after ≡ vec_len now + 1 → vec_capacity after ≡ vec_capacity now → IsFilled t g (place + 1) before after
filled_on t g place before now after x i step added longer same =
    let m = place - g in
    let at : place ≡ g + m = omega (arith, i.from) in
    let one_more : m + 1 ≡ place + 1 - g = omega (arith, i.from) in
    record {
      filled =
          filled-more t g m before.items now.items after.items x (ap (step_at t) (sym at) ∙ step) i.filled added
          ∙ ap (λ k. before.items ++ items_from t g k) one_more;
      counted = omega (arith, longer, i.counted);
      capacity = same ∙ i.capacity;
      from = omega (arith, i.from);
    }

-- the last m items were taken, and n were wanted
pub record IsLast {T : Type 0} (t : Trace T) (g m n : ℕ) (e : Ending) : Type 0 where
  pub items : items_from t g n ≡ items_from t g m
  pub count : length (items_from t g n) ≡ m
  pub ending : Some e ≡ ending_within t g n

pub last_items : {T : Type 0} (t : Trace T) (g m n : ℕ) (e : Ending) → g + m ≡ length t.items → t.ending ≡ Some e → m < n → IsLast t g m n e
last_items t g m n e all ends more =
    let left : length (drop g t.items) ≡ m = omega (arith, length-drop g t.items, all) in
    let whole : items_from t g n ≡ drop g t.items = take_all n (drop g t.items) (omega (arith, left, more)) in
    let fewer : ltb (length t.items - g) n ≡ true = lt-ltb (length t.items - g) n (omega (arith, all, more)) in
    record {
      items = whole ∙ sym (take_all m (drop g t.items) (omega (arith, left)));
      count = ap length whole ∙ left;
      ending = sym ends ∙ sym (ap (λ b. cond b t.ending None) fewer);
    }

-- an ending that was given is the source's, and fewer items were left
pub given_ending : {T : Type 0} (t : Trace T) (g n : ℕ) (e : Ending) → ending_within t g n ≡ Some e → (t.ending ≡ Some e) × (length t.items - g < n)
given_ending t g n e is = by_test (ltb (length t.items - g) n) refl is
  where
    by_test : (b : Bool) → ltb (length t.items - g) n ≡ b → cond b t.ending None ≡ Some e → (t.ending ≡ Some e) × (length t.items - g < n)
    by_test true fewer ends = (ends, ltb-true (length t.items - g) n fewer)
    by_test false fewer ends = absurd (cc)

-- as many are left as were wanted
pub record AreEnough {T : Type 0} (t : Trace T) (g n : ℕ) : Type 0 where
  pub count : length (items_from t g n) ≡ n
  pub ending : ending_within t g n ≡ None

pub enough_items : {T : Type 0} (t : Trace T) (g n : ℕ) → g ≤ length t.items → n ≤ length t.items - g → AreEnough t g n
enough_items t g n within enough =
    let fewer : ltb (length t.items - g) n ≡ false = le-ltb (length t.items - g) n enough in
    record {
      count = length-take-le n (drop g t.items) (omega (arith, length-drop g t.items, within, enough));
      ending = ap (λ b. cond b t.ending None) fewer;
    }
