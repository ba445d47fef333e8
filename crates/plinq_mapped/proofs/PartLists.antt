-- Parts one after another: those before one, the one, and what is left.
use Rattle.std.specs.Prelude.{◌≡◌, ℕ, ◌<◌, List, [], ◌∷◌, ◌++◌, length, take, get_or, Option, Some, None, Result, Ok, Err, refl}
use Rattle.std.proofs.Common.{sym, ◌∙◌, ap, subst, arith, append-nil, append_assoc}
use Rattle.plinq_source.specs.declared.ending.Ending.{Ending}
use Rattle.plinq_source.specs.declared.ending.Ending.TheVariants.{Fault}
use Rattle.plinq_source.specs.Trace.{Trace, open_trace, ended_trace, followed_by}
use Rattle.plinq_source.proofs.Followed.{followed_by-followed_by}
use Rattle.plinq_ops.specs.Batches.{batches_from}
use Rattle.plinq_merge.specs.declared.delivery_fault.DeliveryFault.{DeliveryFault}
use Rattle.plinq_merge.specs.Sending.{IsCutOff}
use Rattle.plinq_mapped.specs.Making.{parts_joined, parts-append, parts-one, DeliversOn, Gives, gives-after, gives-breaks}
use Rattle.plinq_mapped.specs.inner.Keeping.{Keeps, keeps-after}
use Rattle.plinq_mapped.specs.Mapped.{trace_at}

-- what was there before an item, the item, and what is left
pub turn-parts : {A : Type 0} (xs all : List A) (x : A) → xs ≡ take (length xs) all → length xs < length all → x ≡ get_or all (length xs) x
    → (rest : List A) × (all ≡ (xs ++ x ∷ []) ++ rest)
turn-parts [] [] x so_far within is = absurd (omega (arith, within))
turn-parts [] (z ∷ zs) x so_far within is = (zs, ap (λ w. w ∷ zs) (sym is))
turn-parts (w ∷ ws) [] x so_far within is = absurd (omega (arith, within))
turn-parts (w ∷ ws) (z ∷ zs) x so_far within is =
    let head : z ≡ w = cc in
    let tail : ws ≡ take (length ws) zs = cc in
    let more = turn-parts ws zs x tail (omega (arith, within)) is in
    (more.0, ap (λ v. v ∷ zs) head ∙ ap (λ l. w ∷ l) more.1)

-- what was made, and then its fault if there is one
trace-begun : {B : Type 0} (ys : List B) (o : Option ℕ) → trace_at ys o None ≡ followed_by (open_trace ys) (trace_at [] o None)
trace-begun ys None = ap open_trace (sym (append-nil ys))
trace-begun ys (Some code) = ap (λ zs. ended_trace zs (Fault code)) (sym (append-nil ys))

-- one part, those before it and those after it
module _ {B : Type 0} (ps : List (List B × Option ℕ)) (ys : List B) (o : Option ℕ) (p : List B × Option ℕ)
    (same : (let pair : List B × Option ℕ = (ys, o) in pair ≡ p)) where
  pub whole : (rest : List (List B × Option ℕ)) (e : Option Ending)
      → parts_joined ((ps ++ p ∷ []) ++ rest) e ≡ followed_by (parts_joined ps None) (followed_by (open_trace ys)
      (followed_by (trace_at [] o None) (parts_joined rest e)))
  whole rest e =
      ap (λ q. parts_joined ((ps ++ q ∷ []) ++ rest) e) (sym same)
      ∙ ap (λ qs. parts_joined qs e) (append_assoc ps ((ys, o) ∷ []) rest)
      ∙ parts-append ps ((ys, o) ∷ rest) e
      ∙ ap (λ t. followed_by (parts_joined ps None) (followed_by t (parts_joined rest e))) (trace-begun ys o)
      ∙ ap (followed_by (parts_joined ps None)) (followed_by-followed_by (open_trace ys) (trace_at [] o None) (parts_joined rest e))

  -- it has no fault
  pub kept : o ≡ None → parts_joined (ps ++ p ∷ []) None ≡ followed_by (parts_joined ps None) (open_trace ys)
  kept none =
      parts-one ps p ∙ ap (λ q. followed_by (parts_joined ps None) (trace_at q.0 q.1 None)) (sym same)
      ∙ ap (λ c. followed_by (parts_joined ps None) (trace_at ys c None)) none

  -- or its fault ends all
  pub faulted : (rest : List (List B × Option ℕ)) (e : Option Ending) (code : ℕ) → o ≡ Some code
      → parts_joined ((ps ++ p ∷ []) ++ rest) e ≡ followed_by (parts_joined ps None) (followed_by (open_trace ys) (ended_trace [] (Fault code)))
  faulted rest e code some =
      whole rest e ∙ ap (λ c. followed_by (parts_joined ps None) (followed_by (open_trace ys) (followed_by (trace_at [] c None) (parts_joined rest e)))) some

module _ {K B : Type 0} (accepts : K → List B → K → Type 0) (refuses : K → List B → ℕ → K → Type 0) (size : Option ℕ) (held : List B) (s : K)
    (ps : List (List B × Option ℕ)) (held1 : List B) (s1 : K)
    (before : DeliversOn accepts refuses size held s (parts_joined ps None) held1 s1) where
  -- no part is left
  pub all-end : (all : List (List B × Option ℕ)) (e : Ending) → ps ≡ all → (r : Result (Option Ending) DeliveryFault) (held2 : List B) (s2 : K)
      → Gives accepts refuses size held1 s1 (ended_trace [] e) r held2 s2
      → Gives accepts refuses size held s (parts_joined all (Some e)) r held2 s2
  all-end all e same r held2 s2 gives =
      let is : parts_joined all (Some e) ≡ followed_by (parts_joined ps None) (ended_trace [] e) =
      ap (λ qs. parts_joined qs (Some e)) (sym (append-nil ps ∙ same)) ∙ parts-append ps [] (Some e) in
      subst (λ u. Gives accepts refuses size held s u r held2 s2) (sym is) (gives-after accepts refuses size held s (parts_joined ps None) held1 s1
      (ended_trace [] e) r held2 s2 before gives)

  module _ (ys : List B) (o : Option ℕ) (p : List B × Option ℕ) (same : (let pair : List B × Option ℕ = (ys, o) in pair ≡ p)) where
    -- a part without a fault was delivered
    pub part-kept : (held2 : List B) (s2 : K) → o ≡ None → DeliversOn accepts refuses size held1 s1 (open_trace ys) held2 s2
        → DeliversOn accepts refuses size held s (parts_joined (ps ++ p ∷ []) None) held2 s2
    part-kept held2 s2 none on =
        subst (λ u. DeliversOn accepts refuses size held s u held2 s2) (sym (kept ps ys o p same none))
        (gives-after accepts refuses size held s (parts_joined ps None) held1 s1 (open_trace ys) (Ok None) held2 s2 before on)

    module _ (all rest : List (List B × Option ℕ)) (parts : all ≡ (ps ++ p ∷ []) ++ rest) (e : Option Ending) where
      -- a part was cut off
      pub part-cut : (fault : DeliveryFault) (s2 : K) → IsCutOff accepts refuses s1 (batches_from size held1 (open_trace ys)) fault s2
          → IsCutOff accepts refuses s (batches_from size held (parts_joined all e)) fault s2
      part-cut fault s2 cut =
          let more : Trace B = followed_by (trace_at [] o None) (parts_joined rest e) in
          subst (λ u. IsCutOff accepts refuses s (batches_from size held u) fault s2) (sym (ap (λ qs. parts_joined qs e) parts ∙ whole ps ys o p same rest e))
          (gives-after accepts refuses size held s (parts_joined ps None) held1 s1 (followed_by (open_trace ys) more) (Err fault) held1 s2 before
          (gives-breaks accepts refuses size held1 s1 (open_trace ys) fault s2 more cut))

      -- a part was delivered, and its fault ends the answer
      pub part-ends : (code : ℕ) (held2 : List B) (s2 : K) → o ≡ Some code → DeliversOn accepts refuses size held1 s1 (open_trace ys) held2 s2
          → (r : Result (Option Ending) DeliveryFault) (held3 : List B) (s3 : K)
          → Gives accepts refuses size held2 s2 (ended_trace [] (Fault code)) r held3 s3 → Gives accepts refuses size held s (parts_joined all e) r held3 s3
      part-ends code held2 s2 some on r held3 s3 gives =
          let last : Trace B = ended_trace [] (Fault code) in
          subst (λ u. Gives accepts refuses size held s u r held3 s3) (sym (ap (λ qs. parts_joined qs e) parts ∙ faulted ps ys o p same rest e code some))
          (gives-after accepts refuses size held s (parts_joined ps None) held1 s1 (followed_by (open_trace ys) last) r held3 s3 before
          (gives-after accepts refuses size held1 s1 (open_trace ys) held2 s2 last r held3 s3 on gives))

-- the same where a list keeps what was made
module _ {B : Type 0} (xs : List B) (ps : List (List B × Option ℕ)) (kept1 : List B) (before : Keeps xs (parts_joined ps None) (Ok None) kept1) where
  pub keeps-all : (all : List (List B × Option ℕ)) (e : Option Ending) → ps ≡ all → Keeps xs (parts_joined all e) (Ok e) kept1
  keeps-all all e same =
      let last : Trace B = record { items = []; ending = e } in
      let is : parts_joined all e ≡ followed_by (parts_joined ps None) last =
      ap (λ qs. parts_joined qs e) (sym (append-nil ps ∙ same)) ∙ parts-append ps [] e in
      subst (λ u. Keeps xs u (Ok e) kept1) (sym is) (keeps-after xs (parts_joined ps None) kept1 last (Ok e) kept1 before (refl, sym (append-nil kept1)))

  module _ (ys : List B) (o : Option ℕ) (p : List B × Option ℕ) (same : (let pair : List B × Option ℕ = (ys, o) in pair ≡ p)) (kept2 : List B)
      (more : kept2 ≡ kept1 ++ ys) where
    pub keeps-part : o ≡ None → Keeps xs (parts_joined (ps ++ p ∷ []) None) (Ok None) kept2
    keeps-part none =
        subst (λ u. Keeps xs u (Ok None) kept2) (sym (kept ps ys o p same none)) (keeps-after xs (parts_joined ps None) kept1 (open_trace ys)
        (Ok None) kept2 before (refl, more))

    pub keeps-fault : (all rest : List (List B × Option ℕ)) → all ≡ (ps ++ p ∷ []) ++ rest → (e : Option Ending) (code : ℕ) → o ≡ Some code
        → Keeps xs (parts_joined all e) (Ok (Some (Fault code))) kept2
    keeps-fault all rest parts e code some =
        let last : Trace B = ended_trace [] (Fault code) in
        subst (λ u. Keeps xs u (Ok (Some (Fault code))) kept2) (sym (ap (λ qs. parts_joined qs e) parts ∙ faulted ps ys o p same rest e code some))
        (keeps-after xs (parts_joined ps None) kept1 (followed_by (open_trace ys) last) (Ok (Some (Fault code))) kept2 before
        (refl, more ∙ ap (λ l. kept1 ++ l) (sym (append-nil ys))))
