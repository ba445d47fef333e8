-- What a query returns.
use Rattle.std.specs.Prelude.{◌≡◌, ◌≢◌, refl, ⊤, ℕ, [], Some, None, Bool, false, Option, Result, Ok, Err}
use Rattle.plinq_source.specs.declared.ending.Ending.{Ending}
use Rattle.plinq_source.specs.declared.ending.Ending.TheVariants.{End, Refused}
use Rattle.plinq_source.specs.Trace.{Trace, ended_trace}
use Rattle.plinq_ops.specs.Query.{is_degree}
use Rattle.plinq_enumerator.specs.declared.growth_fault.GrowthFault.{GrowthFault}
use Rattle.plinq_enumerator.specs.declared.growth_fault.GrowthFault.TheVariants.{Zero}
use Rattle.plinq_enumerator.specs.Growing.{GrowthRule, growth_rule}
use Rattle.plinq_run.specs.declared.aggregate_fault.AggregateFault.{AggregateFault}
use Rattle.plinq_run.specs.declared.aggregate_fault.AggregateFault.TheVariants.{Ended as WasEnded, Run as WasRun}
use Rattle.plinq_run.specs.declared.run_fault.RunFault.TheVariants.{Memory, Sink, Thread, Cancelled}
use Rattle.plinq_run.specs.Runs.{Cause, SinkRefused, Stopped, Other, cause_of}
use Rattle.plinq_passing.specs.declared.query_fault.QueryFault.{QueryFault}
use Rattle.plinq_passing.specs.declared.query_fault.QueryFault.TheVariants.{Degree, Growth, Ended, Run}

-- these numbers were given, and make no growth
abbrev pub CantGrow : Option (ℕ × ℕ × ℕ) → GrowthFault → Type 0
CantGrow None fault = ⊥
CantGrow (Some g) fault = growth_rule g.0 g.1 g.2 ≡ Err fault

-- so the query is refused for them
abbrev pub NoGrowth : Option (ℕ × ℕ × ℕ) → QueryFault → Type 0
NoGrowth growth (Growth fault) = CantGrow growth fault
NoGrowth growth Degree = ⊥
NoGrowth growth (Ended e) = ⊥
NoGrowth growth (Run fault) = ⊥

-- why a run that no sink refused broke off: its token stopped it, if it may; or memory, a thread or tickets were short
abbrev pub FallsShort : Type 0 → Cause → Type 0
FallsShort Stops (SinkRefused code) = ⊥
FallsShort Stops Stopped = Stops
FallsShort Stops Other = ⊤

-- why there is no answer: the source ended so, which isn't well; or so many workers can't be had; or the growth's numbers make none;
-- or the token stopped it; or memory, a thread or tickets were short
abbrev pub HasNone : {T : Type 0} → Type 0 → ℕ → Option (ℕ × ℕ × ℕ) → Trace T → QueryFault → Type 0
HasNone Stops workers growth t Degree = is_degree workers ≡ false
HasNone Stops workers growth t (Growth fault) = CantGrow growth fault
HasNone Stops workers growth t (Ended e) = (t.ending ≡ Some e) × (e ≢ End)
HasNone Stops workers growth t (Run fault) = FallsShort Stops (cause_of fault)

-- what is reported came after the token was asked, and let it pass; of what was never begun, was stopped or fell short that isn't known
abbrev pub AskedFor : {X : Type 0} → Type 0 → Result X QueryFault → Type 0
AskedFor Lets (Ok x) = Lets
AskedFor Lets (Err (Ended e)) = Lets
AskedFor Lets (Err (Run (Sink code))) = Lets
AskedFor Lets (Err fault) = ⊤

-- the same on one thread, where nothing but memory can be short
abbrev pub HasNoneAlone : {T : Type 0} → Trace T → QueryFault → Type 0
HasNoneAlone t Degree = ⊥
HasNoneAlone t (Growth fault) = ⊥
HasNoneAlone t (Ended e) = (t.ending ≡ Some e) × (e ≢ End)
HasNoneAlone t (Run fault) = fault ≡ Memory

-- an aggregate of what steps make, as the query's: they never fault, so no code stands beside it
abbrev pub told_of : {O : Type 0} → Result (O × Option ℕ) AggregateFault → Result O QueryFault
told_of (Ok out) = Ok out.0
told_of (Err (WasEnded e)) = Err (Ended e)
told_of (Err (WasRun fault)) = Err (Run fault)

-- ---- worked rows

abbrev refused : Trace ℕ
refused = ended_trace [] (Refused 7)

-- how the source ended is reported
as_it_ended : HasNone ⊥ 4 None refused (Ended (Refused 7))
as_it_ended = (refl, λ is. absurd (cc))

another_ending : HasNone ⊥ 4 None refused (Ended (Refused 8)) → ⊥
another_ending is = absurd (let bad : ◌≡◌ {A = Option Ending} (Some (Refused 7)) (Some (Refused 8)) = is.0 in cc)

-- an answer that ended well isn't withheld
an_end_is_no_fault : HasNone ⊥ 4 None (ended_trace {T = ℕ} [] End) (Ended End) → ⊥
an_end_is_no_fault is = is.1 refl

-- 64 workers can be had
too_few : HasNone ⊥ 64 None refused Degree → ⊥
too_few is = absurd (let bad : ◌≡◌ {A = Bool} (is_degree 64) false = is in cc)

-- no sink of the query's own refused
no_sink : HasNone ⊥ 4 None refused (Run (Sink 7)) → ⊥
no_sink is = is

-- without a token that may stop it nothing is cancelled
cancelled_by_none : HasNone ⊥ 4 None refused (Run Cancelled) → ⊥
cancelled_by_none is = is

-- a value is reported of what was asked for alone
value_unasked : AskedFor {X = ℕ} ⊥ (Ok 5) → ⊥
value_unasked asked = asked

-- on one thread no thread can be missing
no_thread_alone : HasNoneAlone refused (Run Thread) → ⊥
no_thread_alone is = absurd (cc)

-- chunks of one are a growth
a_growth : HasNone ⊥ 4 (Some (1, 1, 1)) refused (Growth Zero) → ⊥
a_growth is = absurd (let bad : ◌≡◌ {A = Result GrowthRule GrowthFault} (growth_rule 1 1 1) (Err Zero) = is in cc)

chunks_of_none : HasNone ⊥ 4 (Some (0, 1, 1)) refused (Growth Zero)
chunks_of_none = refl
