-- What is called with the items of batches, one batch after another, is called with these items.
use Rattle.std.specs.Prelude.{◌≡◌, ⊤, ℕ, List, [], ◌∷◌, ◌++◌, Option, Result, Ok, Err}
use Rattle.std.proofs.Common.{refl, ap, ◌∙◌, sym, subst, append_assoc}
use Rattle.plinq_source.specs.declared.ending.Ending.{Ending}
use Rattle.plinq_merge.specs.declared.delivery_fault.DeliveryFault.{DeliveryFault}
use Rattle.plinq_merge.specs.declared.delivery_fault.DeliveryFault.TheVariants.{Memory as NoMore, Sink as Refusal}
use Rattle.plinq_merge.specs.Sending.{Leads, RefusesNext, IsCutOff}
use Rattle.plinq_merge.specs.inner.Sent.{leads-append, cut-after, cut-before}
use Rattle.plinq_run.specs.Runs.{Cause, SinkRefused, Stopped, Other, cause_of}
use Rattle.plinq_collect.specs.Telling.{items_of}
use Rattle.plinq_passing.specs.declared.query_fault.QueryFault.{QueryFault}
use Rattle.plinq_passing.specs.declared.query_fault.QueryFault.TheVariants.{Degree, Growth, Ended, Run}
use Rattle.plinq_passing.specs.Ran.{Ran, BreaksOff}

items_of-append : {T : Type 0} (bs cs : List (List T)) → items_of (bs ++ cs) ≡ items_of bs ++ items_of cs
items_of-append [] cs = refl
items_of-append (b ∷ bs) cs = ap (λ ys. b ++ ys) (items_of-append bs cs) ∙ sym (append_assoc b (items_of bs) (items_of cs))

module _ {K F T N : Type 0} (takes : F → T → F → Type 0) (refuses : F → T → ℕ → F → Type 0) (p : K → F) (name : K → N) where
  -- a sink that calls what it is lent with the items of a batch
  abbrev Accepts : K → List T → K → Type 0
  Accepts s b s' = (Leads takes (p s) b (p s')) × (name s' ≡ name s)

  abbrev Rejects : K → List T → ℕ → K → Type 0
  Rejects s b code s' = (RefusesNext takes refuses (p s) b code (p s')) × (name s' ≡ name s)

  leads-items : (s : K) (bs : List (List T)) (s' : K) → Leads Accepts s bs s' → (Leads takes (p s) (items_of bs) (p s')) × (name s' ≡ name s)
  leads-items s [] s' is = (ap p is, ap name is)
  leads-items s (b ∷ bs) s' (m, one, more) =
      let on = leads-items m bs s' more in (leads-append takes (p s) b (items_of bs) (p m) (p s') one.0 on.0, on.1 ∙ one.1)

  cut-items : (s : K) (bs : List (List T)) (fault : DeliveryFault) (s' : K) → IsCutOff Accepts Rejects s bs fault s'
      → (IsCutOff takes refuses (p s) (items_of bs) fault (p s')) × (name s' ≡ name s)
  cut-items s bs NoMore s' (sent, rest, parts, leads) =
      let on = leads-items s sent s' leads in ((items_of sent, items_of rest, ap items_of parts ∙ items_of-append sent rest, on.0), on.1)
  cut-items s bs (Refusal code) s' (sent, b, rest, m, parts, leads, refused) =
      let on = leads-items s sent m leads in (
        subst (λ xs. IsCutOff takes refuses (p s) xs (Refusal code) (p s')) (sym (ap items_of parts ∙ items_of-append sent (b ∷ rest)))
            (cut-after takes refuses (p s) (items_of sent) (b ++ items_of rest) (Refusal code) (p m) (p s') on.0
            (cut-before takes refuses (p m) b (items_of rest) (Refusal code) (p s') refused.0)),
        refused.1 ∙ on.1,
      )

  breaks-items : (Stops : Type 0) (cause : Cause) (bs : List (List T)) (s s' : K) → BreaksOff Accepts Rejects Stops cause bs s s'
      → (BreaksOff takes refuses Stops cause (items_of bs) (p s) (p s')) × (name s' ≡ name s)
  breaks-items Stops (SinkRefused code) bs s s' h = cut-items s bs (Refusal code) s' h
  breaks-items Stops Stopped bs s s' h = let on = cut-items s bs NoMore s' h.1 in ((h.0, on.0), on.1)
  breaks-items Stops Other bs s s' h = cut-items s bs NoMore s' h

  -- what a run gives such a sink says how it called, and that it lends the same
  pub calls-ran : (Stops : Type 0) (workers : ℕ) (growth : Option (ℕ × ℕ × ℕ)) (bs : List (List T)) (ending : Option Ending) (s : K)
      (r : Result ⊤ QueryFault) (s' : K)
      → Ran Accepts Rejects Stops workers growth bs ending s r s'
      → (Ran takes refuses Stops workers growth (items_of bs) ending (p s) r (p s')) × (name s' ≡ name s)
  calls-ran Stops workers growth bs ending s (Ok all) s' ran =
      let on = leads-items s bs s' ran.0 in ((on.0, ran.1), on.1)
  calls-ran Stops workers growth bs ending s (Err Degree) s' ran = ((ap p ran.0, ran.1), ap name ran.0)
  calls-ran Stops workers growth bs ending s (Err (Growth fault)) s' ran = ((ap p ran.0, ran.1), ap name ran.0)
  calls-ran Stops workers growth bs ending s (Err (Ended e)) s' ran =
      let on = leads-items s bs s' ran.0 in ((on.0, ran.1, ran.2), on.1)
  calls-ran Stops workers growth bs ending s (Err (Run fault)) s' ran = breaks-items Stops (cause_of fault) bs s s' ran
