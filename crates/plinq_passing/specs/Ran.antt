-- What a query's run gives its sink, and what a search of its answer finds.
use Rattle.std.specs.Prelude.{◌≡◌, ◌≢◌, refl, ⊤, ℕ, List, [], ◌∷◌, Some, None, Bool, true, false, not, is_some, Option, Result, Ok, Err}
use Rattle.std.specs.List.{filter_map}
use Rattle.std.proofs.Common.{◌∙◌}
use Rattle.plinq_source.specs.declared.ending.Ending.{Ending}
use Rattle.plinq_source.specs.declared.ending.Ending.TheVariants.{End, Refused, Fault}
use Rattle.plinq_source.specs.Trace.{Trace, ended_trace}
use Rattle.plinq_merge.specs.Sending.{Leads, TakesBeginning, RefusesNext}
use Rattle.plinq_ops.specs.Query.{is_degree}
use Rattle.plinq_run.specs.declared.run_fault.RunFault.{RunFault}
use Rattle.plinq_run.specs.declared.run_fault.RunFault.TheVariants.{Memory, Sink, Tickets, Thread, Incomplete, Cancelled}
use Rattle.plinq_run.specs.Runs.{Cause, SinkRefused, Stopped, Other, cause_of}
use Rattle.plinq_passing.specs.declared.query_fault.QueryFault.{QueryFault}
use Rattle.plinq_passing.specs.declared.query_fault.QueryFault.TheVariants.{Degree, Growth, Ended, Run}
use Rattle.plinq_passing.specs.Told.{CantGrow, FallsShort}

-- what is made of a source's items, and how it ended
abbrev pub steps_made : {T B : Type 0} → (T → Option B) → Trace T → Trace B
steps_made f t = record { items = filter_map f t.items; ending = t.ending }

module _ {K B : Type 0} (accepts : K → B → K → Type 0) (refuses : K → B → ℕ → K → Type 0) where
  -- a sink has taken a beginning of these, and if that is the cause it refused the next, or the token stopped the query, if it may
  abbrev pub BreaksOff : Type 0 → Cause → List B → K → K → Type 0
  BreaksOff Stops (SinkRefused code) bs s s' = RefusesNext accepts refuses s bs code s'
  BreaksOff Stops Stopped bs s s' = Stops × TakesBeginning accepts s bs s'
  BreaksOff Stops Other bs s s' = TakesBeginning accepts s bs s'

  -- a sink has taken all of these, and the source ended well, or else the fault says how; or it has taken none, since so many workers
  -- can't be had or the growth's numbers make none; or a beginning of them
  abbrev pub Ran : Type 0 → ℕ → Option (ℕ × ℕ × ℕ) → List B → Option Ending → K → Result ⊤ QueryFault → K → Type 0
  Ran Stops workers growth bs ending s (Ok all) s' = (Leads accepts s bs s') × (ending ≡ Some End)
  Ran Stops workers growth bs ending s (Err Degree) s' = (s' ≡ s) × (is_degree workers ≡ false)
  Ran Stops workers growth bs ending s (Err (Growth fault)) s' = (s' ≡ s) × CantGrow growth fault
  Ran Stops workers growth bs ending s (Err (Ended e)) s' = (Leads accepts s bs s') × (ending ≡ Some e) × (e ≢ End)
  Ran Stops workers growth bs ending s (Err (Run fault)) s' = BreaksOff Stops (cause_of fault) bs s s'

-- how a run ended, as the query's own: well, or so
abbrev pub told_ran : Result Ending RunFault → Result ⊤ QueryFault
told_ran (Ok End) = Ok tt
told_ran (Ok (Refused code)) = Err (Ended (Refused code))
told_ran (Ok (Fault code)) = Err (Ended (Fault code))
told_ran (Err fault) = Err (Run fault)

-- on one thread a query fails for no other reason than that the source ended so, or a sink refused
abbrev pub EndedOrRefused : QueryFault → Type 0
EndedOrRefused Degree = ⊥
EndedOrRefused (Growth fault) = ⊥
EndedOrRefused (Ended e) = ⊤
EndedOrRefused (Run Memory) = ⊥
EndedOrRefused (Run (Sink code)) = ⊤
EndedOrRefused (Run Tickets) = ⊥
EndedOrRefused (Run Thread) = ⊥
EndedOrRefused (Run Incomplete) = ⊥
EndedOrRefused (Run Cancelled) = ⊥

-- and a search for no other than that the source ended so
abbrev pub HasEnded : QueryFault → Type 0
HasEnded Degree = ⊥
HasEnded (Growth fault) = ⊥
HasEnded (Ended e) = ⊤
HasEnded (Run fault) = ⊥

-- how the source ended, or the code with which a sink refused
abbrev pub told_alone : Result Ending ℕ → Result ⊤ QueryFault
told_alone (Ok End) = Ok tt
told_alone (Ok (Refused code)) = Err (Ended (Refused code))
told_alone (Ok (Fault code)) = Err (Ended (Fault code))
told_alone (Err code) = Err (Run (Sink code))

-- why a search returns no answer: it found nothing before the source refused with this ending; or the number of workers or the growth
-- was refused; or its token stopped it; or memory, a thread or tickets ran out
abbrev pub SearchFails : {T : Type 0} → Type 0 → Type 0 → ℕ → Option (ℕ × ℕ × ℕ) → Trace T → QueryFault → Type 0
SearchFails FoundNone Stops workers growth t Degree = is_degree workers ≡ false
SearchFails FoundNone Stops workers growth t (Growth fault) = CantGrow growth fault
SearchFails FoundNone Stops workers growth t (Ended e) = (t.ending ≡ Some e) × (e ≢ End) × FoundNone
SearchFails FoundNone Stops workers growth t (Run fault) = FallsShort Stops (cause_of fault)

-- what steps by position leave of what is made of a source's items, and whether these decide it, whatever comes after them
abbrev pub left_of : {T B C : Type 0} → (T → Option B) → (List B → List C) → Trace T → List C
left_of f g t = g (filter_map f t.items)

abbrev pub decided_by : {T B : Type 0} → (T → Option B) → (List B → Bool) → Trace T → Bool
decided_by f d t = d (filter_map f t.items)

-- a source ended well, unless that was decided before
abbrev pub EndsUnless : {T : Type 0} → Bool → Trace T → Type 0
EndsUnless decided t = decided ≡ false → t.ending ≡ Some End

-- how what is left ends: well once it is decided, and else as the source did
abbrev pub ended_unless : Bool → Option Ending → Option Ending
ended_unless true ending = Some End
ended_unless false ending = ending

-- all that is left, and how it ends
abbrev pub left_trace : {T B C : Type 0} → (T → Option B) → (List B → List C) → (List B → Bool) → Trace T → Trace C
left_trace f g d t = record { items = left_of f g t; ending = ended_unless (decided_by f d t) t.ending }

-- why a search fails, but on one thread, where nothing but memory can be short
abbrev pub FailsAlone : {T : Type 0} → Type 0 → Trace T → QueryFault → Type 0
FailsAlone Undecided t Degree = ⊥
FailsAlone Undecided t (Growth fault) = ⊥
FailsAlone Undecided t (Ended e) = (t.ending ≡ Some e) × (e ≢ End) × Undecided
FailsAlone Undecided t (Run fault) = fault ≡ Memory

-- what came first to a sink that refuses once it has come
abbrev pub told_first : {B : Type 0} → Option B → Result ⊤ QueryFault → Result (Option B) QueryFault
told_first item (Ok all) = Ok None
told_first item (Err Degree) = Err Degree
told_first item (Err (Growth fault)) = Err (Growth fault)
told_first item (Err (Ended e)) = Err (Ended e)
told_first item (Err (Run (Sink code))) = Ok item
told_first item (Err (Run Memory)) = Err (Run Memory)
told_first item (Err (Run Tickets)) = Err (Run Tickets)
told_first item (Err (Run Thread)) = Err (Run Thread)
told_first item (Err (Run Incomplete)) = Err (Run Incomplete)
told_first item (Err (Run Cancelled)) = Err (Run Cancelled)

-- whether something was found, and whether nothing was
abbrev pub told_found : {B : Type 0} → Result (Option B) QueryFault → Result Bool QueryFault
told_found (Ok o) = Ok (is_some o)
told_found (Err fault) = Err fault

abbrev pub told_not : Result Bool QueryFault → Result Bool QueryFault
told_not (Ok is) = Ok (not is)
told_not (Err fault) = Err fault

-- ---- worked rows

-- of what was decided before a refusal nothing is said of it
decided_before_it : EndsUnless true (ended_trace {T = ℕ} [] (Refused 7))
decided_before_it still = absurd (cc)

-- and it ends well
ends_once_decided : ended_unless true (Some (Refused 7)) ≡ Some End
ends_once_decided = refl

refused_undecided : ended_unless false (Some (Refused 7)) ≡ Some End → ⊥
refused_undecided is = absurd (let bad : ◌≡◌ {A = Option Ending} (Some (Refused 7)) (Some End) = is in cc)

undecided_before_it : EndsUnless false (ended_trace {T = ℕ} [] (Refused 7)) → ⊥
undecided_before_it ends = absurd (let bad : ◌≡◌ {A = Option Ending} (Some (Refused 7)) (Some End) = ends refl in cc)

-- a sink that keeps what it is given
abbrev keeps : List ℕ → ℕ → List ℕ → Type 0
keeps s x s' = s' ≡ x ∷ s

abbrev never : List ℕ → ℕ → ℕ → List ℕ → Type 0
never s x code s' = ⊥

all_were_taken : Ran keeps never ⊥ 4 None (5 ∷ []) (Some End) [] (Ok tt) (5 ∷ [])
all_were_taken = ((5 ∷ [], refl, refl), refl)

-- a refusal isn't an end
a_refusal_as_an_end : Ran keeps never ⊥ 4 None (5 ∷ []) (Some (Refused 7)) [] (Ok tt) (5 ∷ []) → ⊥
a_refusal_as_an_end ran = absurd (let bad : ◌≡◌ {A = Option Ending} (Some (Refused 7)) (Some End) = ran.1 in cc)

-- what came before a refusal was delivered
lost_before_a_refusal : Ran keeps never ⊥ 4 None (5 ∷ []) (Some (Refused 7)) [] (Err (Ended (Refused 7))) [] → ⊥
lost_before_a_refusal ran = absurd (let bad : ◌≡◌ {A = List ℕ} [] (5 ∷ []) = ran.0.2 ∙ ran.0.1 in cc)

-- a query that was never begun delivers nothing
begun_all_the_same : Ran keeps never ⊥ 65 None (5 ∷ []) (Some End) [] (Err Degree) (5 ∷ []) → ⊥
begun_all_the_same ran = absurd (let bad : ◌≡◌ {A = List ℕ} (5 ∷ []) [] = ran.0 in cc)

-- what was stopped has taken a beginning
stopped_after_one : Ran keeps never ⊤ 4 None (5 ∷ 6 ∷ []) (Some End) [] (Err (Run Cancelled)) (5 ∷ [])
stopped_after_one = (tt, (5 ∷ [], 6 ∷ [], refl, (5 ∷ [], refl, refl)))

-- nothing is stopped without a token that may
stopped_by_none : Ran keeps never ⊥ 4 None (5 ∷ []) (Some End) [] (Err (Run Cancelled)) [] → ⊥
stopped_by_none ran = ran.0

-- a search that found something isn't said to have failed
found_all_the_same : SearchFails ⊥ ⊥ 4 None (ended_trace {T = ℕ} [] (Refused 7)) (Ended (Refused 7)) → ⊥
found_all_the_same fails = fails.2
