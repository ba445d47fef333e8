-- What becomes of what was made, part by part: it goes in batches to a sink.
use Rattle.std.specs.Prelude.{◌≡◌, ℕ, List, [], ◌∷◌, ◌++◌, length, Option, Some, None, Result, Ok, Err, MatchResult, refl}
use Rattle.std.proofs.Common.{arith, sym, ◌∙◌, ap, subst}
use Rattle.plinq_source.specs.declared.ending.Ending.{Ending}
use Rattle.plinq_source.specs.declared.ending.Ending.TheVariants.{End, Fault}
use Rattle.plinq_source.specs.Trace.{Trace, open_trace, ended_trace, followed_by}
use Rattle.plinq_source.proofs.Followed.{trace_of, followed_by-followed_by, followed_by-ended, followed_by-open_nil}
use Rattle.plinq_ops.specs.Batches.{full_batches, held_back, batches_from}
use Rattle.plinq_ops.proofs.GrowingBatches.{full_batches-append, held_back-append, batches_from-followed_by}
use Rattle.plinq_merge.specs.declared.delivery_fault.DeliveryFault.{DeliveryFault}
use Rattle.plinq_merge.specs.declared.delivery_fault.DeliveryFault.TheVariants.{Memory}
use Rattle.plinq_merge.specs.Deliveries.{batches-first}
use Rattle.plinq_merge.specs.Sending.{Leads, IsCutOff}
use Rattle.plinq_merge.specs.inner.Sent.{leads-append, cut-after, cut-before}
use Rattle.plinq_merge.specs.Taking.{IsTaking}
use Rattle.plinq_mapped.specs.declared.deliver_made.DeliverMade.{DeliverMade}
use Rattle.plinq_mapped.specs.Mapped.{trace_at}

-- parts one after another, each up to its fault, and then this ending
abbrev pub parts_joined : {B : Type 0} → List (List B × Option ℕ) → Option Ending → Trace B
parts_joined [] e = record { items = []; ending = e }
parts_joined (p ∷ ps) e = followed_by (trace_at p.0 p.1 None) (parts_joined ps e)

module _ {K B : Type 0} (accepts : K → List B → K → Type 0) (refuses : K → List B → ℕ → K → Type 0) (size : Option ℕ) where
  -- what was made goes on: the full batches were delivered, and the rest is held back
  pub record DeliversOn (held : List B) (s : K) (u : Trace B) (held' : List B) (s' : K) : Type 0 where
    pub still : u.ending ≡ None
    pub kept : held' ≡ held_back size held u.items
    pub leads : Leads accepts s (full_batches size held u.items) s'

  -- or it has ended and all batches were delivered, or they were cut off
  abbrev pub Gives : List B → K → Trace B → Result (Option Ending) DeliveryFault → List B → K → Type 0
  Gives held s u (Ok None) held' s' = DeliversOn held s u held' s'
  Gives held s u (Ok (Some e)) held' s' = (u.ending ≡ Some e) × Leads accepts s (batches_from size held u) s'
  Gives held s u (Err fault) held' s' = IsCutOff accepts refuses s (batches_from size held u) fault s'

  -- it goes on, or the batches were cut off
  abbrev pub DeliversOr : {A : Type 0} → List B → K → Trace B → Result A DeliveryFault → List B → K → Type 0
  DeliversOr held s u r held' s' = MatchResult r (λ _. DeliversOn held s u held' s') (λ fault. IsCutOff accepts refuses s (batches_from size held u) fault s')

  pub gives-begins : (held : List B) (s : K) → DeliversOn held s (open_trace []) held s
  gives-begins held s = record { still = refl; kept = refl; leads = refl }

  -- the batches of what follows items that were delivered
  batches-after : (held : List B) (xs : List B) (held1 : List B) (v : Trace B) → held1 ≡ held_back size held xs
      → batches_from size held (followed_by (open_trace xs) v) ≡ full_batches size held xs ++ batches_from size held1 v
  batches-after held xs held1 v is = batches_from-followed_by size held xs v ∙ ap (λ h. full_batches size held xs ++ batches_from size h v) (sym is)

  gives-after_items : (held : List B) (s : K) (xs held1 : List B) (s1 : K) (v : Trace B) (r : Result (Option Ending) DeliveryFault) (held2 : List B) (s2 : K)
      → DeliversOn held s (open_trace xs) held1 s1 → Gives held1 s1 v r held2 s2 → Gives held s (followed_by (open_trace xs) v) r held2 s2
  gives-after_items held s xs held1 s1 v (Ok None) held2 s2 first second =
      let same : full_batches size held (xs ++ v.items) ≡ full_batches size held xs ++ full_batches size held1 v.items =
      full_batches-append size held xs v.items ∙ ap (λ h. full_batches size held xs ++ full_batches size h v.items) (sym first.kept) in
      record {
        still = second.still;
        kept = second.kept ∙ ap (λ h. held_back size h v.items) first.kept ∙ sym (held_back-append size held xs v.items);
        leads = subst (λ bs. Leads accepts s bs s2) (sym same)
            (leads-append accepts s (full_batches size held xs) (full_batches size held1 v.items) s1 s2 first.leads second.leads);
      }
  gives-after_items held s xs held1 s1 v (Ok (Some e)) held2 s2 first second = (
    second.0,
    subst (λ bs. Leads accepts s bs s2) (sym (batches-after held xs held1 v first.kept))
        (leads-append accepts s (full_batches size held xs) (batches_from size held1 v) s1 s2 first.leads second.1),
  )
  gives-after_items held s xs held1 s1 v (Err fault) held2 s2 first second =
      subst (λ bs. IsCutOff accepts refuses s bs fault s2) (sym (batches-after held xs held1 v first.kept))
      (cut-after accepts refuses s (full_batches size held xs) (batches_from size held1 v) fault s1 s2 first.leads second)

  -- one after another
  pub gives-after : (held : List B) (s : K) (u : Trace B) (held1 : List B) (s1 : K) (v : Trace B) (r : Result (Option Ending) DeliveryFault) (held2 : List B)
      (s2 : K)
      → DeliversOn held s u held1 s1 → Gives held1 s1 v r held2 s2 → Gives held s (followed_by u v) r held2 s2
  gives-after held s u held1 s1 v r held2 s2 first second =
      let is : open_trace u.items ≡ u = ap (trace_of u.items) (sym first.still) in
      subst (λ w. Gives held s (followed_by w v) r held2 s2) is
      (gives-after_items held s u.items held1 s1 v r held2 s2 (subst (λ w. DeliversOn held s w held1 s1) (sym is) first) second)

  -- what ended or was cut off is so with whatever follows
  pub gives-ends : (held : List B) (s : K) (u : Trace B) (e : Ending) (held' : List B) (s' : K) (rest : Trace B) → Gives held s u (Ok (Some e)) held' s'
      → Gives held s (followed_by u rest) (Ok (Some e)) held' s'
  gives-ends held s u e held' s' rest gives = subst (λ w. Gives held s w (Ok (Some e)) held' s') (sym (followed_by-ended u rest e gives.0)) gives

  pub gives-breaks : (held : List B) (s : K) (u : Trace B) (fault : DeliveryFault) (s' : K) (rest : Trace B)
      → IsCutOff accepts refuses s (batches_from size held u) fault s'
      → IsCutOff accepts refuses s (batches_from size held (followed_by u rest)) fault s'
  gives-breaks held s u fault s' rest gives =
      let more = batches-first size held u rest in
      subst (λ bs. IsCutOff accepts refuses s bs fault s') (sym more.1) (cut-before accepts refuses s (batches_from size held u) more.0 fault s' gives)

  -- without memory no more is delivered
  pub gives-stops : (held : List B) (s : K) (u : Trace B) (held' : List B) (s' : K) (rest : Trace B) → DeliversOn held s u held' s'
      → Gives held s (followed_by u rest) (Err Memory) held' s'
  gives-stops held s u held' s' rest first =
      gives-after held s u held' s' rest (Err Memory) held' s' first ([], batches_from size held' rest, refl, refl)

module _ {B : Type 0} where
  pub parts-append : (ps qs : List (List B × Option ℕ)) (e : Option Ending) → parts_joined (ps ++ qs) e ≡ followed_by (parts_joined ps None) (parts_joined qs e)
  parts-append [] qs e = refl
  parts-append (p ∷ ps) qs e =
      ap (followed_by (trace_at p.0 p.1 None)) (parts-append ps qs e)
      ∙ sym (followed_by-followed_by (trace_at p.0 p.1 None) (parts_joined ps None) (parts_joined qs e))

  -- what is so with whatever follows is so of parts with others after them
  pub parts-past : (P : Trace B → Type 0) (ps : List (List B × Option ℕ)) (e : Option Ending) (rest : Trace (List B × Option ℕ))
      → ((v : Trace B) → P (followed_by (parts_joined ps e) v)) → P (parts_joined ps e)
      → P (parts_joined (followed_by (trace_of ps e) rest).items (followed_by (trace_of ps e) rest).ending)
  parts-past P ps None rest on is = subst P (sym (parts-append ps rest.items rest.ending)) (on (parts_joined rest.items rest.ending))
  parts-past P ps (Some e) rest on is = is

  pub parts-one : (ps : List (List B × Option ℕ)) (p : List B × Option ℕ)
      → parts_joined (ps ++ p ∷ []) None ≡ followed_by (parts_joined ps None) (trace_at p.0 p.1 None)
  parts-one ps p = parts-append ps (p ∷ []) None ∙ ap (followed_by (parts_joined ps None)) (followed_by-open_nil (trace_at p.0 p.1 None))

-- the same batches, of what is made of the parts
pub record Made {K B : Type 0} (accepts : K → List B → K → Type 0) (refuses : K → List B → ℕ → K → Type 0) (d : DeliverMade B) (s : K)
    (t : Trace (List B × Option ℕ)) (r : Result (Option Ending) DeliveryFault) (d' : DeliverMade B) (s' : K) : Type 0 where
  pub size : d'.size ≡ d.size
  pub gives : Gives accepts refuses d.size d.held.items s (parts_joined t.items t.ending) r d'.held.items s'

abbrev pub MadeBy : {K B : Type 0} → (K → List B → K → Type 0) → (K → List B → ℕ → K → Type 0) → DeliverMade B → K → Trace (List B × Option ℕ)
    → Result (Option Ending) DeliveryFault → DeliverMade B → K → Type 0
MadeBy accepts refuses d s t r d' s' = Made accepts refuses d s t r d' s'

-- what is delivered of parts one after another is what is delivered of all
pub made-lawful : {K B : Type 0} (accepts : K → List B → K → Type 0) (refuses : K → List B → ℕ → K → Type 0) → IsTaking (MadeBy accepts refuses)
made-lawful {K} {B} accepts refuses =
    record {
      begins = λ d s. record { size = refl; gives = gives-begins accepts refuses d.size d.held.items s };
      goes_on = λ d s xs d1 s1 t r d2 s2 first second.
          record {
            size = second.size ∙ first.size;
            gives = subst (λ u. Gives accepts refuses d.size d.held.items s u r d2.held.items s2) (sym (parts-append xs t.items t.ending))
                (gives-after accepts refuses d.size d.held.items s (parts_joined xs None) d1.held.items s1
                (parts_joined t.items t.ending) r d2.held.items s2 first.gives
                (subst (λ n. Gives accepts refuses n d1.held.items s1 (parts_joined t.items t.ending) r d2.held.items s2) first.size second.gives));
          };
      ends = λ d s t e d' s' rest is.
          record {
            size = is.size;
            gives = parts-past (λ u. Gives accepts refuses d.size d.held.items s u (Ok (Some e)) d'.held.items s') t.items t.ending rest
                (λ v. gives-ends accepts refuses d.size d.held.items s (parts_joined t.items t.ending) e d'.held.items s' v is.gives) is.gives;
          };
      breaks = λ d s t fault d' s' rest is.
          record {
            size = is.size;
            gives = parts-past (λ u. Gives accepts refuses d.size d.held.items s u (Err fault) d'.held.items s') t.items t.ending rest
                (λ v. gives-breaks accepts refuses d.size d.held.items s (parts_joined t.items t.ending) fault s' v is.gives) is.gives;
          };
      stops = λ d s xs d' s' rest is.
          record {
            size = is.size;
            gives = subst (λ u. Gives accepts refuses d.size d.held.items s u (Err Memory) d'.held.items s') (sym (parts-append xs rest.items rest.ending))
                (gives-stops accepts refuses d.size d.held.items s (parts_joined xs None) d'.held.items s' (parts_joined rest.items rest.ending) is.gives);
          };
    }

-- ---- worked rows

parts_up_to_a_fault : parts_joined {B = ℕ} ((6 ∷ 2 ∷ [], None) ∷ (4 ∷ [], Some 7) ∷ (9 ∷ [], None) ∷ []) (Some End) ≡ ended_trace (6 ∷ 2 ∷ 4 ∷ []) (Fault 7)
parts_up_to_a_fault = refl

-- a sink that keeps the items of its batches, and refuses none; it gets batches of two
abbrev keeps_items : List ℕ → List ℕ → List ℕ → Type 0
keeps_items s b s' = s' ≡ s ++ b

abbrev never : List ℕ → List ℕ → ℕ → List ℕ → Type 0
never s b code s' = ⊥

the_last_is_held_back : Gives keeps_items never (Some 2) (1 ∷ []) [] (open_trace (2 ∷ 3 ∷ [])) (Ok None) (3 ∷ []) (1 ∷ 2 ∷ [])
the_last_is_held_back = record { still = refl; kept = refl; leads = (1 ∷ 2 ∷ [], refl, refl) }

the_last_is_lost : Gives keeps_items never (Some 2) (1 ∷ []) [] (open_trace (2 ∷ 3 ∷ [])) (Ok None) [] (1 ∷ 2 ∷ []) → ⊥
the_last_is_lost gives = absurd (omega (arith, ap length gives.kept))

it_goes_out_at_the_end : Gives keeps_items never (Some 2) (1 ∷ []) [] (ended_trace [] (Fault 7)) (Ok (Some (Fault 7))) (1 ∷ []) (1 ∷ [])
it_goes_out_at_the_end = (refl, (1 ∷ [], refl, refl))

it_stays_at_the_end : Gives keeps_items never (Some 2) (1 ∷ []) [] (ended_trace [] (Fault 7)) (Ok (Some (Fault 7))) (1 ∷ []) [] → ⊥
it_stays_at_the_end gives = let (first, is, last) = gives.1 in absurd (omega (arith, ap length (last ∙ is)))

-- fully buffered, nothing goes out at a fault
none_goes_out_at_a_fault : Gives keeps_items never None (1 ∷ []) [] (ended_trace [] (Fault 7)) (Ok (Some (Fault 7))) (1 ∷ []) []
none_goes_out_at_a_fault = (refl, refl)
