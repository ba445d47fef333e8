-- What is called with the items of batches, one batch after another, is called with these items.
use Rattle.std.specs.Prelude.{◌≡◌, ⊤, ℕ, List, [], ◌∷◌, ◌++◌, Result, Ok, Err, IfErr, refl}
use Rattle.std.proofs.Common.{ap, ◌∙◌, sym, subst}
use Rattle.plinq_source.specs.declared.ending.Ending.{Ending}
use Rattle.plinq_source.specs.Trace.{Trace, ended_trace}
use Rattle.plinq_merge.specs.declared.delivery_fault.DeliveryFault.{DeliveryFault}
use Rattle.plinq_merge.specs.declared.delivery_fault.DeliveryFault.TheVariants.{Memory as NoMore, Sink as Refusal}
use Rattle.plinq_merge.specs.Sending.{Leads, IsCutOff}
use Rattle.plinq_merge.specs.inner.Sent.{leads-append, cut-after, cut-before}
use Rattle.plinq_ops.specs.declared.merge_option.MergeOption.{MergeOption}
use Rattle.plinq_ops.specs.Batches.{batches}
use Rattle.plinq_run.specs.declared.report.Report.{Report}
use Rattle.plinq_run.specs.declared.run_fault.RunFault.{RunFault}
use Rattle.plinq_run.specs.declared.run_fault.RunFault.TheVariants.{Memory, Sink, Tickets, Thread, Incomplete, Cancelled}
use Rattle.plinq_run.specs.Reports.{HasReported, IsBroken}
use Rattle.plinq_run.specs.Runs.{Cause, SinkRefused, Stopped, Other, BreaksFor, cause_of}
use Rattle.plinq_collect.proofs.JoinedBatches.{items_of-append, items_of-batches}
use Rattle.plinq_collect.specs.Calling.{Takes, Refuses, CallsFirst, CallsSome, CallsAll, IsCode, NoRoomOrRefused}
use Rattle.plinq_collect.specs.Telling.{items_of}

module _ {K F T N : Type 0} (Step : F → T → Result ⊤ ℕ → F → Type 0) (p : K → F) (name : K → N) where
  -- a sink that calls what it is lent with the items of a batch
  abbrev Accepts : K → List T → K → Type 0
  Accepts s b s' = (Leads (Takes Step) (p s) b (p s')) × (name s' ≡ name s)

  abbrev Rejects : K → List T → ℕ → K → Type 0
  Rejects s b code s' = (IsCutOff (Takes Step) (Refuses Step) (p s) b (Refusal code) (p s')) × (name s' ≡ name s)

  leads-items : (s : K) (bs : List (List T)) (s' : K) → Leads Accepts s bs s' → (Leads (Takes Step) (p s) (items_of bs) (p s')) × (name s' ≡ name s)
  leads-items s [] s' is = (ap p is, ap name is)
  leads-items s (b ∷ bs) s' (m, one, more) =
      let on = leads-items m bs s' more in (leads-append (Takes Step) (p s) b (items_of bs) (p m) (p s') one.0 on.0, on.1 ∙ one.1)

  cut-items : (s : K) (bs : List (List T)) (fault : DeliveryFault) (s' : K) → IsCutOff Accepts Rejects s bs fault s'
      → (IsCutOff (Takes Step) (Refuses Step) (p s) (items_of bs) fault (p s')) × (name s' ≡ name s)
  cut-items s bs NoMore s' (sent, rest, parts, leads) =
      let on = leads-items s sent s' leads in ((items_of sent, items_of rest, ap items_of parts ∙ items_of-append sent rest, on.0), on.1)
  cut-items s bs (Refusal code) s' (sent, b, rest, m, parts, leads, refused) =
      let on = leads-items s sent m leads in (
        subst (λ xs. IsCutOff (Takes Step) (Refuses Step) (p s) xs (Refusal code) (p s')) (sym (ap items_of parts ∙ items_of-append sent (b ∷ rest)))
            (cut-after (Takes Step) (Refuses Step) (p s) (items_of sent) (b ++ items_of rest) (Refusal code) (p m) (p s') on.0
            (cut-before (Takes Step) (Refuses Step) (p m) b (items_of rest) (Refusal code) (p s') refused.0)),
        refused.1 ∙ on.1,
      )

  breaks-items : (cause : Cause) (bs : List (List T)) (s s' : K) → BreaksFor Accepts Rejects cause bs s s'
      → (CallsFirst Step cause (items_of bs) (p s) (p s')) × (name s' ≡ name s)
  breaks-items (SinkRefused code) bs s s' h = cut-items s bs (Refusal code) s' h
  breaks-items Stopped bs s s' h = absurd h
  breaks-items Other bs s s' h = cut-items s bs NoMore s' h

  -- what a run reports of such a sink says how it called, and that it lends the same
  pub calls-reported : (option : MergeOption) (May : Trace T → Trace T → Type 0) (t : Trace T) (s s' : K) (report : Report)
      → HasReported Accepts Rejects option May t s s' report → (CallsSome Step option (May t) (p s) (Ok report.ending) (p s')) × (name s' ≡ name s)
  calls-reported option May t s s' report h =
      let on = leads-items s (batches option h.answer) s' h.has_run.delivered in (
        record {
          answer = h.answer;
          may = h.may;
          calls = (on.0, h.has_run.ending);
          all = items_of-batches option h.answer;
        },
        on.1,
      )

  pub calls-broken : (option : MergeOption) (May : Trace T → Trace T → Type 0) (t : Trace T) (s s' : K) (fault : RunFault)
      → IsBroken Accepts Rejects option May t s s' fault → (CallsSome Step option (May t) (p s) (Err fault) (p s')) × (name s' ≡ name s)
  calls-broken option May t s s' fault h =
      let cut = breaks-items (cause_of fault) (batches option h.answer) s s' h.broken in (
        record {
          answer = h.answer;
          may = h.may;
          calls = cut.0;
          all = items_of-batches option h.answer;
        },
        cut.1,
      )

-- of an answer whose items are these
pub calls-answer : {F T : Type 0} (Step : F → T → Result ⊤ ℕ → F → Type 0) (u : Trace T) (xs : List T) (e : Ending) → ended_trace xs e ≡ u
    → (f : F) (outcome : Result Ending RunFault) (g : F)
    → CallsAll Step (ended_trace xs e) f outcome g → CallsAll Step u f outcome g
calls-answer Step u xs e is f outcome g h = subst (λ v. CallsAll Step v f outcome g) is h

-- with none of them, where memory ran out
pub calls-none : {F T : Type 0} (Step : F → T → Result ⊤ ℕ → F → Type 0) (u : Trace T) (f g : F) (fault : RunFault) → fault ≡ Memory → g ≡ f
    → CallsAll Step u f (Err fault) g
calls-none Step u f g fault is same = subst (λ it. CallsAll Step u f (Err it) g) (sym is) (record { calls = ([], u.items, refl, same) })

-- a code is all that may come in the place of an ending
pub refused-only : (outcome : Result Ending RunFault) → IfErr outcome IsCode → NoRoomOrRefused outcome
refused-only (Ok e) is = tt
refused-only (Err (Sink code)) is = tt
refused-only (Err Memory) is = absurd is
refused-only (Err Tickets) is = absurd is
refused-only (Err Thread) is = absurd is
refused-only (Err Incomplete) is = absurd is
refused-only (Err Cancelled) is = absurd is
