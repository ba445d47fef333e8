-- What a source's answer says of the trace that it walks.
use Rattle.std.specs.Prelude.{◌≡◌, ℕ, ◌+◌, ◌<◌, ◌≤◌, List, [], ◌∷◌, ◌++◌, length, take, drop, Option, Some, None, refl}
use Rattle.std.proofs.Common.{◌∙◌, ap, arith, length-drop, get_or}
use Rattle.std.proofs.Math.Seq.{drop-cons}
use Rattle.std.proofs.lemmas.List.{take_more}
use Rattle.plinq_source.specs.declared.ending.Ending.{Ending}
use Rattle.plinq_source.specs.declared.ending.Ending.TheVariants.{End, Refused, Fault}
use Rattle.plinq_source.specs.declared.step.Step.TheVariants.{Item, End as StepEnd, Refused as StepRefused}
use Rattle.plinq_source.specs.Trace.{Trace, step_of, step_at, given_after, IsSourceEnding}

-- an item: it is the next one of the trace
pub record IsNextItem {T : Type 0} (t : Trace T) (n : ℕ) (x : T) : Type 0 where
  pub within : n < length t.items
  pub taken : take (n + 1) t.items ≡ take n t.items ++ x ∷ []
  pub moved : given_after t n ≡ n + 1

-- an ending: all items were handed out, and the trace ends so
pub record IsAtEnding {T : Type 0} (t : Trace T) (n : ℕ) (e : Ending) : Type 0 where
  pub all : n ≡ length t.items
  pub ends : t.ending ≡ Some e
  pub moved : given_after t n ≡ n

take-drop_cons : {T : Type 0} (xs : List T) (n : ℕ) (x : T) (ys : List T) → drop n xs ≡ x ∷ ys → (n < length xs) × (take (n + 1) xs ≡ take n xs ++ x ∷ [])
take-drop_cons xs n x ys is =
    let within : n < length xs = omega (arith, length-drop n xs, ap length is) in
    let first : get_or xs n x ≡ x = let e = drop-cons xs n x within in cc in
    (within, take_more xs n x within ∙ ap (λ y. take n xs ++ y ∷ []) first)

pub step_of-item : {T : Type 0} (ys : List T) (e : Option Ending) (x : T) → step_of ys e ≡ Item x → (zs : List T) × (ys ≡ x ∷ zs)
step_of-item [] None x is = absurd (cc)
step_of-item [] (Some End) x is = absurd (cc)
step_of-item [] (Some (Refused c)) x is = absurd (cc)
step_of-item [] (Some (Fault c)) x is = absurd (cc)
step_of-item (y ∷ ys) e x is = (ys, cc)

step_of-end : {T : Type 0} (ys : List T) (e : Option Ending) → IsSourceEnding e → step_of ys e ≡ StepEnd → (ys ≡ []) × (e ≡ Some End)
step_of-end [] None ends is = absurd ends
step_of-end [] (Some End) ends is = (refl, refl)
step_of-end [] (Some (Refused c)) ends is = absurd (cc)
step_of-end [] (Some (Fault c)) ends is = absurd ends
step_of-end (y ∷ ys) e ends is = absurd (cc)

step_of-refused : {T : Type 0} (ys : List T) (e : Option Ending) (code : ℕ) → step_of ys e ≡ StepRefused code → (ys ≡ []) × (e ≡ Some (Refused code))
step_of-refused [] None code is = absurd (cc)
step_of-refused [] (Some End) code is = absurd (cc)
step_of-refused [] (Some (Refused c)) code is = (refl, cc)
step_of-refused [] (Some (Fault c)) code is = absurd (cc)
step_of-refused (y ∷ ys) e code is = absurd (cc)

pub next_item : {T : Type 0} (t : Trace T) (n : ℕ) (x : T) → step_at t n ≡ Item x → IsNextItem t n x
next_item t n x is =
    let p = step_of-item (drop n t.items) t.ending x is in
    let q = take-drop_cons t.items n x p.0 p.1 in
    record { within = q.0; taken = q.1; moved = omega (arith, q.0) }

at_length : {T : Type 0} (t : Trace T) (n : ℕ) (e : Ending) → n ≤ length t.items → drop n t.items ≡ [] → t.ending ≡ Some e → IsAtEnding t n e
at_length t n e within none ends =
    let all : n ≡ length t.items = omega (arith, within, length-drop n t.items, ap length none) in
    record { all = all; ends = ends; moved = omega (arith, all) }

pub at_end : {T : Type 0} (t : Trace T) (n : ℕ) → IsSourceEnding t.ending → n ≤ length t.items → step_at t n ≡ StepEnd → IsAtEnding t n End
at_end t n source within is =
    let p = step_of-end (drop n t.items) t.ending source is in
    at_length t n End within p.0 p.1

pub at_refusal : {T : Type 0} (t : Trace T) (n : ℕ) (code : ℕ) → n ≤ length t.items → step_at t n ≡ StepRefused code → IsAtEnding t n (Refused code)
at_refusal t n code within is =
    let p = step_of-refused (drop n t.items) t.ending code is in
    at_length t n (Refused code) within p.0 p.1
