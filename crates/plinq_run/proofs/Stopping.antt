-- What is reported of a run; and of one into a sink with its token, in terms of the token and the sink.
use Rattle.plinq_run.proofs.RunWords.{◌≡◌, ℕ, List, [], ◌∷◌, Bool, true, false, ◌||◌, ◌⊎◌, Result, Ok, Err, IfOk, refl, sym, ◌∙◌, subst, append-nil, inl, inr}
use Rattle.plinq_run.proofs.RunWords.{Trace, End, MergeOption, batches, MergeFault, Delivery, Passes, delivery_fault_of, leads-map, Report, RunFault, Sink}
use Rattle.plinq_run.proofs.RunWords.{Cancelled, reported_ending, Reports, HasRun, Cause, SinkRefused, Other, cause_of, BreaksFor, Runs, RunsWith, handed_trace}
use Rattle.std.proofs.Math.Bool.{or-false, or-true}
use Rattle.plinq_merge.specs.declared.merge_fault.MergeFault.TheVariants.{Memory as NoMemory, Sink as Refusal}
use Rattle.plinq_merge.specs.{declared.with_cancellation.WithCancellation.WithCancellation, Cancelling.IsRefused, Cancelling.IsAsked, Mergers.StopsShort}
use Rattle.plinq_merge.specs.Lent.{AreSame, delivery_of, Takes, Refuses}
use Rattle.plinq_merge.proofs.Lent.{cut-map, lets-told, stops-told, leads-told, cut-told, leads-on, cut-same, cut-on, cut-kept}
use Rattle.plinq_run.specs.{Endings.RunsDecided, Endings.RunsDecidedWith, Runs.HasBroken, Runs.Stopped, Stopping.is_stopped, Stopping.ReportsWith}
use Rattle.plinq_run.specs.inner.TokenReports.{ReportsLent, IsAskedAtLast}

-- a run that broke off was cut off
breaks-cut : {K T : Type 0} (accepts : K → List T → K → Type 0) (refuses : K → List T → ℕ → K → Type 0) (cause : Cause) (bs : List (List T)) (s s' : K)
    → BreaksFor accepts refuses cause bs s s'
    → (fault : MergeFault) × StopsShort accepts refuses s bs fault s'
breaks-cut accepts refuses (SinkRefused code) bs s s' h = (Refusal code, h)
breaks-cut accepts refuses Stopped bs s s' h = absurd h
breaks-cut accepts refuses Other bs s s' h = (NoMemory, h)

module _ {K T : Type 0} (accepts : K → List T → K → Type 0) (refuses : K → List T → ℕ → K → Type 0) (option : MergeOption)
    (May : Trace T → Trace T → Type 0) (t : Trace T) (s s' : K) where
  -- where there is one answer, it was delivered
  pub reports-runs : (v : Trace T) (b : Result Report RunFault) → ((u : Trace T) → May t u → u ≡ v) → Reports accepts refuses option May t s s' b
      → Runs accepts refuses option v s s' (reported_ending b)
  reports-runs v (Ok r) only h = subst (λ u. HasRun accepts option u s s' r.ending) (only h.answer h.may) h.has_run
  reports-runs v (Err f) only h = subst (λ u. HasBroken accepts refuses option u s s' f) (only h.answer h.may) h.broken

  -- and what the records hand out has the same
  pub reports-accounts : (F : Trace T → Trace T) (b : Result Report RunFault) → ((x u : Trace T) → May x u → u ≡ F x)
      → Reports accepts refuses option May t s s' b
      → IfOk b (λ r. F (handed_trace t r.records.items) ≡ F t)
  reports-accounts F (Ok r) only h = sym (only (handed_trace t r.records.items) h.answer h.accounts) ∙ only t h.answer h.may
  reports-accounts F (Err f) only h = tt

  -- it never answers that it was cancelled
  pub reports-never : (r : Result Report RunFault) → Reports accepts refuses option May t s s' r → is_stopped r ≡ false
  reports-never (Ok report) h = refl
  reports-never (Err Cancelled) h = absurd h.broken
  reports-never (Err fault) h = refl

-- at last the run's outcome is reported, or that it was cancelled
pub asked-outcome : {C K : Type 0} (asks : C → ℕ → Bool → C → Type 0) (w w' : WithCancellation C K) (stopped : Bool) (outcome r : Result Report RunFault)
    → IsAskedAtLast asks stopped outcome w r w'
    → (r ≡ outcome) ⊎ (r ≡ Err Cancelled)
asked-outcome asks w w' true outcome r last = inr last.1
asked-outcome asks w w' false (Err fault) r last = inl last.1
asked-outcome asks w w' false (Ok report) r (true, asked, is) = inr is
asked-outcome asks w w' false (Ok report) r (false, asked, is) = inl is

-- what holds of a run's outcome holds of what is reported of it
pub ok-outcome : (P : Report → Type 0) (outcome r : Result Report RunFault) → (r ≡ outcome) ⊎ (r ≡ Err Cancelled) → IfOk outcome P → IfOk r P
ok-outcome P outcome r (inl is) h = rw is h
ok-outcome P outcome r (inr is) h = rw is tt

-- of a decided query
pub decided-outcome : {W K : Type 0} {w w' : W} {s s' : K} (outcome r : Result Report RunFault) → (r ≡ outcome) ⊎ (r ≡ Err Cancelled)
    → RunsDecided w w' outcome → s' ≡ s → RunsDecidedWith s s' r
decided-outcome (Ok report) r (inl is) h untouched =
    rw is (record { ended = (let same : Ok report.ending ≡ Ok End = h.answered in cc); cancelled = tt; untouched = untouched; none = h.none })
decided-outcome (Err fault) r (inl is) h untouched = absurd (let bad : Err fault ≡ Ok End = h.answered in cc)
decided-outcome outcome r (inr is) h untouched = rw is (record { ended = tt; cancelled = refl; untouched = untouched; none = tt })

module _ {C K T : Type 0} (asks : C → ℕ → Bool → C → Type 0) (accepts : K → List T → K → Type 0) (refuses : K → List T → ℕ → K → Type 0)
    (option : MergeOption) (May : Trace T → Trace T → Type 0) (t : Trace T) where
  abbrev Lends : WithCancellation C K → WithCancellation C K → Result Report RunFault → Type 0
  Lends w w' r = Reports (Takes asks accepts) (Refuses asks refuses) option May t w w' r

  pub reports-same : (w w' : WithCancellation C K) (r : Result Report RunFault) → Lends w w' r → AreSame w w'
  reports-same w w' (Ok report) h = let on = leads-on asks accepts refuses w (batches option h.answer) w' h.has_run.delivered in on.same
  reports-same w w' (Err fault) h =
      let cut = breaks-cut (Takes asks accepts) (Refuses asks refuses) (cause_of fault) (batches option h.answer) w w' h.broken in
      cut-same asks accepts refuses w (batches option h.answer) (delivery_fault_of cut.0) w' cut.1

  -- a batch was kept back
  pub reports-stopped : (w w' : WithCancellation C K) (r : Result Report RunFault) → w.is_stopped ≡ false → w'.is_stopped ≡ true → Lends w w' r
      → ReportsWith asks accepts refuses option May t (delivery_of w) (delivery_of w') (Err Cancelled)
  reports-stopped w w' (Ok report) before after h =
      let on = leads-on asks accepts refuses w (batches option h.answer) w' h.has_run.delivered in
      absurd (let bad : true ≡ false = sym after ∙ on.still ∙ before in cc)
  reports-stopped w w' (Err fault) before after h =
      let cut = breaks-cut (Takes asks accepts) (Refuses asks refuses) (cause_of fault) (batches option h.answer) w w' h.broken in
      let kept = cut-kept asks accepts refuses w (batches option h.answer) (delivery_fault_of cut.0) w' before after cut.1 in
      record {
        answer = h.answer;
        may = h.may;
        stopped = record { sent = kept.sent; rest = kept.kept ∷ kept.rest; parts = kept.parts; last = kept.last; leads = kept.leads; stops = kept.stops };
      }

  breaks-on : (w w' : WithCancellation C K) (cause : Cause) (bs : List (List T)) → w.is_stopped ≡ false → w'.is_stopped ≡ false
      → BreaksFor (Takes asks accepts) (Refuses asks refuses) cause bs w w'
      → BreaksFor (Passes asks accepts) (IsRefused asks refuses) cause bs (delivery_of w) (delivery_of w')
  breaks-on w w' (SinkRefused code) bs before after h = cut-on asks accepts refuses w bs (delivery_fault_of (Refusal code)) w' before after h
  breaks-on w w' Stopped bs before after h = h
  breaks-on w w' Other bs before after h = cut-on asks accepts refuses w bs (delivery_fault_of NoMemory) w' before after h

  -- none was
  pub reports-passed : (w w' : WithCancellation C K) (r : Result Report RunFault) → w.is_stopped ≡ false → w'.is_stopped ≡ false → Lends w w' r
      → Reports (Passes asks accepts) (IsRefused asks refuses) option May t (delivery_of w) (delivery_of w') r
  reports-passed w w' (Ok report) before after h =
      let on = leads-on asks accepts refuses w (batches option h.answer) w' h.has_run.delivered in
      record { answer = h.answer; may = h.may; accounts = h.accounts; has_run = record { delivered = on.leads; ending = h.has_run.ending } }
  reports-passed w w' (Err fault) before after h =
      record { answer = h.answer; may = h.may; broken = breaks-on w w' (cause_of fault) (batches option h.answer) before after h.broken }

  module _ (d d' : Delivery C K) where
    pub broken-with : (fault : RunFault) → Reports (Passes asks accepts) (IsRefused asks refuses) option May t d d' (Err fault)
        → ReportsWith asks accepts refuses option May t d d' (Err fault)
    broken-with Cancelled h = absurd h.broken
    broken-with fault h = h

    -- at the last question
    pub stopped-last : (report : Report) (last : Delivery C K)
        → Reports (Passes asks accepts) (IsRefused asks refuses) option May t d last (Ok report) → IsAsked asks true last d'
        → ReportsWith asks accepts refuses option May t d d' (Err Cancelled)
    stopped-last report last h stops =
        record {
          answer = h.answer;
          may = h.may;
          stopped = record { sent = _; rest = []; parts = sym (append-nil _); last = last; leads = h.has_run.delivered; stops = stops };
        }

    pub told-with : (has_told : C → Bool) → ((c : C) (n : ℕ) (answer : Bool) (c' : C) → asks c n answer c' → has_told c' ≡ (has_told c || answer))
        → (r : Result Report RunFault)
        → ReportsWith asks accepts refuses option May t d d' r → has_told d'.token ≡ (has_told d.token || is_stopped r)
    told-with has_told keeps (Ok report) h =
        lets-told asks has_told keeps h.last.token h.last.delivered d'.token h.lets.asked
        ∙ leads-told asks has_told keeps accepts refuses d (batches option h.reported.answer) h.last h.reported.has_run.delivered
        ∙ sym (or-false (has_told d.token))
    told-with has_told keeps (Err Cancelled) h =
        stops-told asks has_told keeps h.stopped.last.token h.stopped.last.delivered d'.token h.stopped.stops.asked ∙ sym (or-true (has_told d.token))
    told-with has_told keeps (Err fault) h =
        let cut = breaks-cut (Passes asks accepts) (IsRefused asks refuses) (cause_of fault) (batches option h.answer) d d' h.broken in
        cut-told asks has_told keeps accepts refuses d (batches option h.answer) (delivery_fault_of cut.0) d' cut.1 ∙ sym (or-false (has_told d.token))

    -- where there is one answer
    pub reports-with-runs : (v : Trace T) (r : Result Report RunFault) → ((u : Trace T) → May t u → u ≡ v)
        → ReportsWith asks accepts refuses option May t d d' r → RunsWith asks accepts refuses option v d d' r
    reports-with-runs v (Ok report) only h = (h.last, rw (only h.reported.answer h.reported.may) at h.reported.has_run, h.lets)
    reports-with-runs v (Err Cancelled) only h = rw (only h.answer h.may) at h.stopped
    reports-with-runs v (Err fault) only h = rw (only h.answer h.may) at h.broken

    -- with a token that never stops anything
    module _ (never : (c c' : C) (n : ℕ) → asks c n true c' → ⊥) where
      cut-plain : (bs : List (List T)) (fault : MergeFault) → StopsShort (Passes asks accepts) (IsRefused asks refuses) d bs fault d'
          → StopsShort accepts refuses d.sink bs fault d'.sink
      cut-plain bs fault =
          cut-map (λ s. s.sink) (Passes asks accepts) (IsRefused asks refuses) accepts refuses (λ s b s' passes. passes.taken)
          (λ s b code s' refused. refused.refused) d bs (delivery_fault_of fault) d'

      pub reports-plain : (r : Result Report RunFault) → ReportsWith asks accepts refuses option May t d d' r
          → Reports accepts refuses option May t d.sink d'.sink r
      reports-plain (Ok report) h =
          let reported = h.reported in
          record {
            answer = reported.answer;
            may = reported.may;
            accounts = reported.accounts;
            has_run = record {
              delivered = rw h.lets.sink (leads-map (λ s. s.sink) (Passes asks accepts) accepts (λ s b s' passes. passes.taken) _ _ _
                  reported.has_run.delivered);
              ending = reported.has_run.ending;
            };
          }
      reports-plain (Err Cancelled) h = absurd (never _ _ _ h.stopped.stops.asked)
      reports-plain (Err (Sink code)) h = record { answer = h.answer; may = h.may; broken = cut-plain (batches option h.answer) (Refusal code) h.broken }
      reports-plain (Err fault) h = record { answer = h.answer; may = h.may; broken = cut-plain (batches option h.answer) NoMemory h.broken }

  -- what a run reports that lends them both
  module _ (has_told : C → Bool) (keeps : (c : C) (n : ℕ) (answer : Bool) (c' : C) → asks c n answer c' → has_told c' ≡ (has_told c || answer))
      (w w' : WithCancellation C K) (before : w.is_stopped ≡ false) where
    abbrev Reported : WithCancellation C K → Result Report RunFault → Type 0
    Reported = ReportsLent asks has_told accepts refuses option May t w

    lent : (last : WithCancellation C K) (r : Result Report RunFault) → AreSame w last
        → ReportsWith asks accepts refuses option May t (delivery_of w) (delivery_of last) r → Reported last r
    lent last r same h = record { same = same; told = told-with (delivery_of w) (delivery_of last) has_told keeps r h; reports = h }

    -- the token is asked once more
    asked-same : (last : WithCancellation C K) (r : Result Report RunFault) → Lends w w' r → AreSame w' last → AreSame w last
    asked-same last r h same = let first = reports-same w w' r h in record { token = same.token ∙ first.token; sink = same.sink ∙ first.sink }

    -- by what its token has answered by then, how it has ended, and what the token answers at last
    pub lent-asked : (stopped : Bool) (outcome r : Result Report RunFault) (last : WithCancellation C K) → w'.is_stopped ≡ stopped
        → Lends w w' outcome → AreSame w' last
        → IsAskedAtLast asks stopped outcome w' r last → Reported last r
    lent-asked true outcome r last is h same (unchanged, cancelled) =
        rw (unchanged, cancelled) (lent w' (Err Cancelled) (reports-same w w' outcome h) (reports-stopped w w' outcome before is h))
    lent-asked false (Err fault) r last is h same (unchanged, broken) =
        rw (unchanged, broken) (lent w' (Err fault) (reports-same w w' (Err fault) h)
        (broken-with (delivery_of w) (delivery_of w') fault (reports-passed w w' (Err fault) before is h)))
    lent-asked false (Ok report) r last is h same (true, asked, cancelled) =
        rw cancelled (lent last (Err Cancelled) (asked-same last (Ok report) h same)
        (stopped-last (delivery_of w) (delivery_of last) report (delivery_of w') (reports-passed w w' (Ok report) before is h) asked))
    lent-asked false (Ok report) r last is h same (false, asked, lets) =
        rw lets (lent last (Ok report) (asked-same last (Ok report) h same)
        (record { last = delivery_of w'; reported = reports-passed w w' (Ok report) before is h; lets = asked }))
