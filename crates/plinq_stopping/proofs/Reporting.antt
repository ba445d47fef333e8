-- What is reported of a run that its token may have stopped is what the token and the answer say.
use Rattle.std.specs.Prelude.{◌≡◌, ℕ, List, [], ◌∷◌, Bool, true, false, ◌||◌, Option, Some, None, Result, Ok, Err, refl}
use Rattle.std.proofs.Common.{sym, ◌∙◌, ap, subst}
use Rattle.std.proofs.Math.Bool.{or-false, or-true}
use Rattle.plinq_source.specs.declared.ending.Ending.{Ending}
use Rattle.plinq_source.specs.declared.ending.Ending.TheVariants.{End, Refused, Fault}
use Rattle.plinq_source.specs.Trace.{Trace}
use Rattle.plinq_aggregate.specs.Folding.{Folding, fold_of}
use Rattle.plinq_groups.specs.Mapping.{mapping}
use Rattle.plinq_ops.specs.declared.merge_option.MergeOption.{MergeOption}
use Rattle.plinq_ops.specs.Batches.{batch_size}
use Rattle.plinq_merge.specs.declared.delivery_fault.DeliveryFault.{DeliveryFault}
use Rattle.plinq_merge.specs.declared.delivery_fault.DeliveryFault.TheVariants.{Memory, Sink}
use Rattle.plinq_merge.specs.declared.with_cancellation.WithCancellation.{WithCancellation}
use Rattle.plinq_merge.specs.Lent.{AreSame}
use Rattle.plinq_merge.specs.Sending.{Leads}
use Rattle.plinq_merge.proofs.Lent.{lets-told, stops-told}
use Rattle.plinq_run.specs.declared.aggregate_fault.AggregateFault.{AggregateFault}
use Rattle.plinq_run.specs.declared.aggregate_fault.AggregateFault.TheVariants.{Ended, Run}
use Rattle.plinq_run.specs.declared.run_fault.RunFault.{RunFault}
use Rattle.plinq_run.specs.declared.run_fault.RunFault.TheVariants.{Memory as NoMemory, Sink as Refusal, Cancelled}
use Rattle.plinq_run.specs.Aggregates.{Aggregates, AggregatesSome}
use Rattle.plinq_run.specs.Parting.{Breaks, WasGiven, GivesSome}
use Rattle.plinq_run.specs.Runs.{Cause, Other, cause_of}
use Rattle.plinq_run.specs.Stopping.{is_stopped}
use Rattle.plinq_mapped.specs.declared.deliver_made.DeliverMade.{DeliverMade}
use Rattle.plinq_mapped.specs.Making.{MadeBy}
use Rattle.plinq_mapped.specs.Mapped.{RunsMadeOf}
use Rattle.plinq_mapped.proofs.MadeOf.{runs-made}
use Rattle.plinq_stopping.specs.declared.sums.Sums.{Sums}
use Rattle.plinq_stopping.specs.Asking.{Lets, HasLet, HasStopped}
use Rattle.plinq_stopping.specs.Outcomes.{AggregatesWith, RunsMadeOfWith, is_stopped_aggregate}
use Rattle.plinq_stopping.specs.inner.Given.{GivesAsked}
use Rattle.plinq_stopping.specs.inner.Reported.{AsksAtLast, unless_stopped, value_ended, value_reported}
use Rattle.plinq_stopping.specs.inner.Summing.{SummedBy}
use Rattle.plinq_stopping.specs.inner.Watching.{LetsFor, Went, Watches, lets-none, let-weaker}

-- what a token that may be asked has returned
module _ {C : Type 0} (asks : C → ℕ → Bool → C → Type 0) (has_told : C → Bool)
    (keeps : (c : C) (n : ℕ) (answer : Bool) (c' : C) → asks c n answer c' → has_told c' ≡ (has_told c || answer)) where
  lead-told : (c : C) (ns : List ℕ) (c' : C) → Leads (λ a n b. asks a n false b) c ns c' → has_told c' ≡ has_told c
  lead-told c [] c' leads = ap has_told leads
  lead-told c (n ∷ ns) c' leads = lead-told leads.0 ns c' leads.2 ∙ lets-told asks has_told keeps c n leads.0 leads.1

  let-told : (c c' : C) → HasLet asks c c' → has_told c' ≡ has_told c
  let-told c c' has =
      lead-told has.after has.rest.0 c' has.rest.1
      ∙ lets-told asks has_told keeps has.before has.number has.after has.asked
      ∙ lead-told c has.first.0 has.before has.first.1

  stopped-told : (c c' : C) → HasStopped asks c c' → has_told c' ≡ (has_told c || true)
  stopped-told c c' has = stops-told asks has_told keeps has.before has.number c' has.asked ∙ sym (or-true (has_told c))

  plain : (c c' : C) → has_told c' ≡ has_told c → has_told c' ≡ (has_told c || false)
  plain c c' is = is ∙ sym (or-false (has_told c))

  pub aggregate-told : {T A O : Type 0} (f : Folding T A O) (IsAnswer : Trace T → Type 0) (c : C) (r : Result O AggregateFault) (c' : C)
      → AggregatesWith asks f IsAnswer c r c' → has_told c' ≡ (has_told c || is_stopped_aggregate r)
  aggregate-told f IsAnswer c (Ok out) c' h = plain c c' (let-told c c' h.3)
  aggregate-told f IsAnswer c (Err (Ended e)) c' h = plain c c' (let-told c c' h.3)
  aggregate-told f IsAnswer c (Err (Run Cancelled)) c' h = stopped-told c c' h
  aggregate-told f IsAnswer c (Err (Run fault)) c' h = plain c c' (lead-told c h.1.0 c' h.1.1)

  pub run-told : {K T B : Type 0} (accepts : K → List B → K → Type 0) (refuses : K → List B → ℕ → K → Type 0) (option : MergeOption)
      (makes : T → Result (Option B) ℕ) (IsAnswer : Trace T → Type 0) (c : C) (s : K) (r : Result Ending RunFault) (c' : C) (s' : K)
      → RunsMadeOfWith asks accepts refuses option makes IsAnswer c s r c' s' → has_told c' ≡ (has_told c || is_stopped r)
  run-told accepts refuses option makes IsAnswer c s (Ok e) c' s' h = plain c c' (let-told c c' h.3)
  run-told accepts refuses option makes IsAnswer c s (Err Cancelled) c' s' h = stopped-told c c' h.3
  run-told accepts refuses option makes IsAnswer c s (Err (Refusal code)) c' s' h = plain c c' (let-told c c' h.3)
  run-told accepts refuses option makes IsAnswer c s (Err fault) c' s' h = plain c c' (lead-told c h.3.0 c' h.3.1)

-- ---- what was given, by what the token has returned

module _ {C W K T A U : Type 0} (f : Folding T A U) (asks : C → ℕ → Bool → C → Type 0)
    (made : W → K → Trace A → Result (Option Ending) DeliveryFault → W → K → Type 0) (IsAnswer : Trace T → Type 0) (a : W) (x y : K) (c c' : C) where
  -- of a run that broke off the token is no cause
  broken : (fault : RunFault) (how : Result (Option Ending) DeliveryFault) → LetsFor asks how c c'
      → (u : Trace T) → IsAnswer u → WasGiven f made u a x how y → Breaks how (cause_of fault) → GivesAsked f asks made IsAnswer a x y c c' (Err fault)
  broken fault (Ok None) lets u is given breaks = absurd breaks
  broken Cancelled (Ok (Some e)) lets u is given breaks = absurd (cc)
  broken (Refusal code) (Ok (Some e)) lets u is given breaks = absurd (cc)
  broken fault (Ok (Some e)) lets u is given breaks = ((u, is, Ok (Some e), given, breaks), lets)
  broken Cancelled (Err Memory) lets u is given breaks = absurd (cc)
  broken (Refusal code) (Err Memory) lets u is given breaks = absurd (cc)
  broken fault (Err Memory) lets u is given breaks = ((u, is, Err Memory, given, breaks), lets)
  broken Cancelled (Err (Sink refused)) lets u is given breaks = absurd (cc)
  broken (Refusal code) (Err (Sink refused)) lets u is given breaks = ((u, is, Err (Sink refused), given, breaks), lets)
  broken fault (Err (Sink refused)) lets u is given breaks = absurd (cc)

module _ {C V W K T A U : Type 0} (f : Folding T A U) (asks : C → ℕ → Bool → C → Type 0) (inner : V → W)
    (made : W → K → Trace A → Result (Option Ending) DeliveryFault → W → K → Type 0) (IsAnswer : Trace T → Type 0)
    (v : V) (w w' : WithCancellation C K) where
  abbrev GivesWith : Result Ending RunFault → Type 0
  GivesWith r = GivesSome f (Watches asks inner made) IsAnswer v w r w'

  pub given-same : (r : Result Ending RunFault) → GivesWith r → AreSame w w'
  given-same (Ok e) (u, is, given) = given.taken.same
  given-same (Err fault) (u, is, how, given, breaks) = given.taken.same

  module _ (before : w.is_stopped ≡ false) where
    went-at : (stopped : Bool) → w'.is_stopped ≡ stopped → (t : Trace A) (r : Result (Option Ending) DeliveryFault) (v' : V)
        → Watches asks inner made v w t r v' w'
        → Went asks made stopped w.token.now (inner v) w.sink.now t r w'.token.now (inner v') w'.sink.now
    went-at stopped after t r v' is =
        subst (λ b. Went asks made b w.token.now (inner v) w.sink.now t r w'.token.now (inner v') w'.sink.now) after (is.went before)

    -- the token has let all pass
    let-given : (e : Ending) → w'.is_stopped ≡ false → GivesWith (Ok e)
        → (GivesSome f made IsAnswer (inner v) w.sink.now (Ok e) w'.sink.now) × Lets asks w.token.now w'.token.now
    let-given e after (u, is, given) =
        let went = went-at false after given.parts (Ok (Some e)) given.last given.taken in
        ((u, is, record { parts = given.parts; folds = given.folds; last = inner given.last; taken = went.1 }), went.0)

    let-broken : (fault : RunFault) → w'.is_stopped ≡ false → GivesWith (Err fault)
        → GivesAsked f asks made IsAnswer (inner v) w.sink.now w'.sink.now w.token.now w'.token.now (Err fault)
    let-broken fault after (u, is, how, given, breaks) =
        let went = went-at false after given.parts how given.last given.taken in
        broken f asks made IsAnswer (inner v) w.sink.now w'.sink.now w.token.now w'.token.now fault how went.0 u is
        (record { parts = given.parts; folds = given.folds; last = inner given.last; taken = went.1 }) breaks

    -- it has stopped the run
    stopped-given : (r : Result Ending RunFault) → w'.is_stopped ≡ true → GivesWith r
        → (GivesSome f made IsAnswer (inner v) w.sink.now (Err NoMemory) w'.sink.now) × HasStopped asks w.token.now w'.token.now
    stopped-given (Ok e) after (u, is, given) =
        let went = went-at true after given.parts (Ok (Some e)) given.last given.taken in
        let bad = went.1.1 in absurd (cc)
    stopped-given (Err fault) after (u, is, how, given, breaks) =
        let went = went-at true after given.parts how given.last given.taken in (
          (u, is, Err Memory, record { parts = given.parts; folds = given.folds; last = inner given.last; taken = went.2 }, refl),
          went.0,
        )

    -- it is asked at last
    asked-last : (e : Ending) (answer : Bool) (last : WithCancellation C K) → asks w'.token.now w'.delivered answer last.token.now → last.sink.now ≡ w'.sink.now
        → GivesSome f made IsAnswer (inner v) w.sink.now (Ok e) w'.sink.now → Lets asks w.token.now w'.token.now
        → GivesAsked f asks made IsAnswer (inner v) w.sink.now last.sink.now w.token.now last.token.now (unless_stopped answer e)
    asked-last e true last asked sink (u, is, given) lets = (
      subst (GivesSome f made IsAnswer (inner v) w.sink.now (Err NoMemory)) (sym sink) (u, is, Ok (Some e), given, refl),
      record { before = w'.token.now; first = lets; number = w'.delivered; asked = asked },
    )
    asked-last e false last asked sink h lets = (
      subst (GivesSome f made IsAnswer (inner v) w.sink.now (Ok e)) (sym sink) h,
      record {
        before = w'.token.now;
        first = lets;
        number = w'.delivered;
        after = last.token.now;
        asked = asked;
        rest = lets-none asks last.token.now;
      },
    )

    pub given-asked : (stopped : Bool) → w'.is_stopped ≡ stopped → (outcome r : Result Ending RunFault) (last : WithCancellation C K)
        → AsksAtLast asks stopped outcome w' r last → GivesWith outcome
        → GivesAsked f asks made IsAnswer (inner v) w.sink.now last.sink.now w.token.now last.token.now r
    given-asked true after outcome r last (unchanged, is) h = rw (unchanged, is) (stopped-given outcome after h)
    given-asked false after (Err fault) r last (unchanged, is) h =
        rw (unchanged, is) (let-broken fault after h)
    given-asked false after (Ok e) r last (answer, asked, sink, is) h =
        let given = let-given e after h in
        rw is (asked-last e answer last asked sink given.0 given.1)

-- ---- aggregates

value-ended : {T A O : Type 0} (f : Folding T A O) (u : Trace T) (acc : A) (e : Ending) → u.ending ≡ Some e → acc ≡ fold_of f u.items
    → Aggregates f u (value_ended f acc e)
value-ended f u acc End ends is = (ap f.tell is, ends)
value-ended f u acc e ends is = (ends, λ well. cc)

module _ {F T A O : Type 0} (folding : F → Folding T A O) (d : Sums F) where
  -- no sink refuses
  breaks-other : (x : A) (parts : Trace A) (how : Result (Option Ending) DeliveryFault) (d' : Sums F) (y : A) (cause : Cause)
      → SummedBy folding d x parts how d' y → Breaks how cause → cause ≡ Other
  breaks-other x parts (Ok None) d' y cause made breaks = absurd breaks
  breaks-other x parts (Err (Sink code)) d' y cause made breaks = absurd made.combines
  breaks-other x parts how d' y cause made breaks = breaks

  abbrev GivesSummed : (Trace T → Type 0) → A → Result Ending RunFault → A → Type 0
  GivesSummed IsAnswer x r acc = GivesSome (folding d.aggregator.now) (SummedBy folding) IsAnswer d x r acc

  summed-ended : (IsAnswer : Trace T → Type 0) (acc : A) (e : Ending) → GivesSummed IsAnswer (folding d.aggregator.now).seed (Ok e) acc
      → AggregatesSome (folding d.aggregator.now) IsAnswer (value_ended (folding d.aggregator.now) acc e)
  summed-ended IsAnswer acc e (u, is, given) =
      (u, is, value-ended (folding d.aggregator.now) u acc e (sym given.folds.ending ∙ given.taken.combines.0) (given.taken.combines.1 ∙ given.folds.items []))

  summed-broken : (IsAnswer : Trace T → Type 0) (x acc : A) (fault : RunFault) → GivesSummed IsAnswer x (Err fault) acc → cause_of fault ≡ Other
  summed-broken IsAnswer x acc fault (u, is, how, given, breaks) = breaks-other x given.parts how given.last acc (cause_of fault) given.taken breaks

  module _ {C : Type 0} (asks : C → ℕ → Bool → C → Type 0) (IsAnswer : Trace T → Type 0) (c c' : C) (acc : A) where
    let-ended : (e : Ending) → AggregatesSome (folding d.aggregator.now) IsAnswer (value_ended (folding d.aggregator.now) acc e) → HasLet asks c c'
        → AggregatesWith asks (folding d.aggregator.now) IsAnswer c (value_ended (folding d.aggregator.now) acc e) c'
    let-ended End (u, is, value) lets = (u, is, value, lets)
    let-ended (Refused code) (u, is, value) lets = (u, is, value, lets)
    let-ended (Fault code) (u, is, value) lets = (u, is, value, lets)

    aggregate-with : (r : Result Ending RunFault)
        → GivesAsked (folding d.aggregator.now) asks (SummedBy folding) IsAnswer d (folding d.aggregator.now).seed acc c c' r
        → AggregatesWith asks (folding d.aggregator.now) IsAnswer c (value_reported (folding d.aggregator.now) acc r) c'
    aggregate-with (Ok e) h = let-ended e (summed-ended IsAnswer acc e h.0) h.1
    aggregate-with (Err Cancelled) h = h.1
    aggregate-with (Err NoMemory) h = (refl, h.1)
    aggregate-with (Err (Refusal code)) h = (summed-broken IsAnswer (folding d.aggregator.now).seed acc (Refusal code) h.0, let-weaker asks c c' h.1)
    aggregate-with (Err fault) h = (refl, h.1)

-- the same, of an aggregator that is this one
pub with-same : {F T A O C : Type 0} (folding : F → Folding T A O) (d : Sums F) (by : F) → d.aggregator.now ≡ by → (asks : C → ℕ → Bool → C → Type 0)
    (IsAnswer : Trace T → Type 0) (c c' : C) (acc : A) (r : Result Ending RunFault)
    → GivesAsked (folding by) asks (SummedBy folding) IsAnswer d (folding by).seed acc c c' r
    → AggregatesWith asks (folding by) IsAnswer c (value_reported (folding by) acc r) c'
with-same folding d by is asks IsAnswer c c' acc r h =
    subst (λ a. GivesAsked (folding a) asks (SummedBy folding) IsAnswer d (folding a).seed acc c c' r
    → AggregatesWith asks (folding a) IsAnswer c (value_reported (folding a) acc r) c') is
    (λ given. aggregate-with folding d asks IsAnswer c c' acc r given) h

-- ---- runs

module _ {T B K C : Type 0} (makes : T → Result (Option B) ℕ) (accepts : K → List B → K → Type 0) (refuses : K → List B → ℕ → K → Type 0)
    (option : MergeOption) (first : DeliverMade B) (size : first.size ≡ batch_size option) (held : first.held.items ≡ [])
    (asks : C → ℕ → Bool → C → Type 0) (IsAnswer : Trace T → Type 0) (c c' : C) (s s' : K) where
  made-run : (r : Result Ending RunFault) → GivesSome (mapping makes) (MadeBy accepts refuses) IsAnswer first s r s'
      → RunsMadeOf accepts refuses option makes IsAnswer s s' r
  made-run r h = runs-made makes accepts refuses option first size held IsAnswer s r s' h

  pub run-with : (r : Result Ending RunFault) → GivesAsked (mapping makes) asks (MadeBy accepts refuses) IsAnswer first s s' c c' r
      → RunsMadeOfWith asks accepts refuses option makes IsAnswer c s r c' s'
  run-with (Ok e) h = let ran = made-run (Ok e) h.0 in (ran.0, ran.1, ran.2, h.1)
  run-with (Err Cancelled) h = let ran = made-run (Err NoMemory) h.0 in (ran.0, ran.1, ran.2, h.1)
  run-with (Err (Refusal code)) h = let ran = made-run (Err (Refusal code)) h.0 in (ran.0, ran.1, ran.2, h.1)
  run-with (Err fault) h = let ran = made-run (Err fault) h.0 in (ran.0, ran.1, ran.2, h.1)
