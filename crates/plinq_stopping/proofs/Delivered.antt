-- What was delivered to a sink with its token, in terms of either.
use Rattle.std.specs.Prelude.{◌≡◌, ℕ, List, [], ◌∷◌, Bool, true, false, Option, Some, None, Result, Ok, Err, refl}
use Rattle.std.proofs.Common.{sym, ◌∙◌, ap, subst}
use Rattle.plinq_source.specs.declared.ending.Ending.{Ending}
use Rattle.plinq_source.specs.Trace.{Trace}
use Rattle.plinq_ops.specs.Batches.{full_batches, batches_from}
use Rattle.plinq_merge.specs.declared.delivery_fault.DeliveryFault.{DeliveryFault}
use Rattle.plinq_merge.specs.declared.delivery_fault.DeliveryFault.TheVariants.{Memory, Sink}
use Rattle.plinq_merge.specs.declared.with_cancellation.WithCancellation.{WithCancellation}
use Rattle.plinq_merge.specs.Cancelling.{Delivery, Passes, IsRefused, IsKeptBack}
use Rattle.plinq_merge.specs.Lent.{AreSame, delivery_of, Takes, Refuses}
use Rattle.plinq_merge.specs.Sending.{Leads, TakesBeginning, IsCutOff}
use Rattle.plinq_merge.proofs.Lent.{leads-map, cut-map, leads-on, cut-same, cut-on, cut-kept}
use Rattle.plinq_mapped.specs.declared.deliver_made.DeliverMade.{DeliverMade}
use Rattle.plinq_mapped.specs.Making.{parts_joined, Gives, MadeBy}
use Rattle.plinq_stopping.specs.Asking.{Lets, HasStopped}
use Rattle.plinq_stopping.specs.inner.Watching.{Went, lets-on, lets-all, let-first, stopped-after}

module _ {C K B : Type 0} (asks : C → ℕ → Bool → C → Type 0) (accepts : K → List B → K → Type 0) (refuses : K → List B → ℕ → K → Type 0) where
  leads-lets : (d : Delivery C K) (bs : List (List B)) (d' : Delivery C K) → Leads (Passes asks accepts) d bs d' → Lets asks d.token d'.token
  leads-lets d [] d' leads = ([], ap (λ x. x.token) leads)
  leads-lets d (b ∷ bs) d' leads =
      let on = leads-lets leads.0 bs d' leads.2 in
      (d.delivered ∷ on.0, (leads.0.token, leads.1.asked, on.1))

  leads-taken : (d : Delivery C K) (bs : List (List B)) (d' : Delivery C K) → Leads (Passes asks accepts) d bs d' → Leads accepts d.sink bs d'.sink
  leads-taken d bs d' leads = leads-map (λ s. s.sink) (Passes asks accepts) accepts (λ s b s' passes. passes.taken) d bs d' leads

  cut-lets : (d : Delivery C K) (bs : List (List B)) (fault : DeliveryFault) (d' : Delivery C K)
      → IsCutOff (Passes asks accepts) (IsRefused asks refuses) d bs fault d' → Lets asks d.token d'.token
  cut-lets d bs Memory d' cut = leads-lets d cut.0 d' cut.3
  cut-lets d bs (Sink code) d' cut =
      lets-on asks d.token cut.3.token d'.token (leads-lets d cut.0 cut.3 cut.5) (cut.3.delivered ∷ [], (d'.token, cut.6.asked, refl))

  cut-taken : (d : Delivery C K) (bs : List (List B)) (fault : DeliveryFault) (d' : Delivery C K)
      → IsCutOff (Passes asks accepts) (IsRefused asks refuses) d bs fault d' → IsCutOff accepts refuses d.sink bs fault d'.sink
  cut-taken d bs fault d' cut =
      cut-map (λ s. s.sink) (Passes asks accepts) (IsRefused asks refuses) accepts refuses (λ s b s' passes. passes.taken)
      (λ s b code s' refused. refused.refused) d bs fault d' cut

  kept-stopped : (d : Delivery C K) (bs : List (List B)) (d' : Delivery C K) → IsKeptBack asks accepts d bs d' → HasStopped asks d.token d'.token
  kept-stopped d bs d' kept =
      record {
        before = kept.last.token;
        first = leads-lets d kept.sent kept.last kept.leads;
        number = kept.last.delivered;
        asked = kept.stops.asked;
      }

  kept-taken : (d : Delivery C K) (bs : List (List B)) (d' : Delivery C K) → IsKeptBack asks accepts d bs d' → TakesBeginning accepts d.sink bs d'.sink
  kept-taken d bs d' kept = (
    kept.sent,
    kept.kept ∷ kept.rest,
    kept.parts,
    subst (Leads accepts d.sink kept.sent) (sym kept.stops.sink) (leads-taken d kept.sent kept.last kept.leads),
  )

  module _ (size : Option ℕ) (held : List B) (u : Trace B) (held' : List B) (w w' : WithCancellation C K) where
    abbrev GivesLent : Result (Option Ending) DeliveryFault → Type 0
    GivesLent r = Gives (Takes asks accepts) (Refuses asks refuses) size held w u r held' w'

    pub gives-same : (r : Result (Option Ending) DeliveryFault) → GivesLent r → AreSame w w'
    gives-same (Ok None) gives = (leads-on asks accepts refuses w (full_batches size held u.items) w' gives.leads).same
    gives-same (Ok (Some e)) gives = (leads-on asks accepts refuses w (batches_from size held u) w' gives.1).same
    gives-same (Err fault) gives = cut-same asks accepts refuses w (batches_from size held u) fault w' gives

    module _ (before : w.is_stopped ≡ false) where
      -- where each batch passed, the token hasn't stopped
      not-stopped : {P : Type 0} → w'.is_stopped ≡ w.is_stopped → w'.is_stopped ≡ true → P
      not-stopped still after = absurd (let bad : true ≡ false = sym after ∙ still ∙ before in cc)

      pub gives-let : (r : Result (Option Ending) DeliveryFault) → w'.is_stopped ≡ false → GivesLent r
          → (Lets asks w.token.now w'.token.now) × Gives accepts refuses size held w.sink.now u r held' w'.sink.now
      gives-let (Ok None) after gives =
          let on = leads-on asks accepts refuses w (full_batches size held u.items) w' gives.leads in (
            leads-lets (delivery_of w) (full_batches size held u.items) (delivery_of w') on.leads,
            record {
              still = gives.still;
              kept = gives.kept;
              leads = leads-taken (delivery_of w) (full_batches size held u.items) (delivery_of w') on.leads;
            },
          )
      gives-let (Ok (Some e)) after gives =
          let on = leads-on asks accepts refuses w (batches_from size held u) w' gives.1 in (
            leads-lets (delivery_of w) (batches_from size held u) (delivery_of w') on.leads,
            (gives.0, leads-taken (delivery_of w) (batches_from size held u) (delivery_of w') on.leads),
          )
      gives-let (Err fault) after gives =
          let cut = cut-on asks accepts refuses w (batches_from size held u) fault w' before after gives in (
            cut-lets (delivery_of w) (batches_from size held u) fault (delivery_of w') cut,
            cut-taken (delivery_of w) (batches_from size held u) fault (delivery_of w') cut,
          )

      pub gives-stopped : (r : Result (Option Ending) DeliveryFault) → w'.is_stopped ≡ true → GivesLent r
          → (HasStopped asks w.token.now w'.token.now) × ((code : ℕ) × (r ≡ Err (Sink code)))
          × Gives accepts refuses size held w.sink.now u (Err Memory) held' w'.sink.now
      gives-stopped (Ok None) after gives = not-stopped (leads-on asks accepts refuses w (full_batches size held u.items) w' gives.leads).still after
      gives-stopped (Ok (Some e)) after gives = not-stopped (leads-on asks accepts refuses w (batches_from size held u) w' gives.1).still after
      gives-stopped (Err Memory) after gives = not-stopped (leads-on asks accepts refuses w gives.0 w' gives.3).still after
      gives-stopped (Err (Sink code)) after gives =
          let kept = cut-kept asks accepts refuses w (batches_from size held u) (Sink code) w' before after gives in (
            kept-stopped (delivery_of w) (batches_from size held u) (delivery_of w') kept,
            (code, refl),
            kept-taken (delivery_of w) (batches_from size held u) (delivery_of w') kept,
          )

  -- the token let it begin: what then was delivered, or not
  module _ (w m w' : WithCancellation C K) (d : DeliverMade B) (t : Trace (List B × Option ℕ)) (r : Result (Option Ending) DeliveryFault) (d' : DeliverMade B)
      (same : AreSame w m) (sink : m.sink.now ≡ w.sink.now) (still : m.is_stopped ≡ w.is_stopped) (number : ℕ)
      (asked : asks w.token.now number false m.token.now)
      (made : MadeBy (Takes asks accepts) (Refuses asks refuses) d m t r d' w') where
    pub begun-same : AreSame w w'
    begun-same =
        let on = gives-same d.size d.held.items (parts_joined t.items t.ending) d'.held.items m w' r made.gives in
        record { token = on.token ∙ same.token; sink = on.sink ∙ same.sink }

    pub begun-went : (stopped : Bool) → w'.is_stopped ≡ stopped → w.is_stopped ≡ false
        → Went asks (MadeBy accepts refuses) stopped w.token.now d w.sink.now t r w'.token.now d' w'.sink.now
    begun-went true after before =
        let is = gives-stopped d.size d.held.items (parts_joined t.items t.ending) d'.held.items m w' (still ∙ before) r after made.gives in (
          stopped-after asks w.token.now m.token.now w'.token.now (number ∷ [], (m.token.now, asked, refl)) is.0,
          is.1,
          record {
            size = made.size;
            gives = subst (λ s. Gives accepts refuses d.size d.held.items s (parts_joined t.items t.ending) (Err Memory) d'.held.items w'.sink.now) sink is.2;
          },
        )
    begun-went false after before =
        let is = gives-let d.size d.held.items (parts_joined t.items t.ending) d'.held.items m w' (still ∙ before) r after made.gives in (
          lets-all asks r w.token.now w'.token.now (let-first asks w.token.now number m.token.now w'.token.now asked is.0),
          record {
            size = made.size;
            gives = subst (λ s. Gives accepts refuses d.size d.held.items s (parts_joined t.items t.ending) r d'.held.items w'.sink.now) sink is.1;
          },
        )
