-- A run with a token that counts batches, seen from its sink alone.
use Rattle.std.specs.Prelude.{◌≡◌, ℕ, ◌≤◌, List, Some, Result, Ok, Err, refl}
use Rattle.std.proofs.Common.{sym, ◌∙◌, ap, subst, arith}
use Rattle.plinq_source.specs.Trace.{Trace}
use Rattle.plinq_merge.specs.declared.merge_fault.MergeFault.{MergeFault}
use Rattle.plinq_merge.specs.declared.merge_fault.MergeFault.TheVariants.{Memory as NoMemory, Sink as Refusal}
use Rattle.plinq_merge.specs.declared.cancel_after.CancelAfter.{CancelAfter}
use Rattle.plinq_merge.specs.Cancelling.{Delivery, Passes, IsRefused}
use Rattle.plinq_merge.specs.Mergers.{delivery_fault_of, StopsShort}
use Rattle.plinq_merge.specs.Sending.{Leads}
use Rattle.plinq_merge.specs.Tokens.{AsksAfter, most_of}
use Rattle.plinq_merge.proofs.Lent.{cut-map}
use Rattle.plinq_ops.specs.declared.merge_option.MergeOption.{MergeOption}
use Rattle.plinq_ops.specs.Batches.{batches}
use Rattle.plinq_run.specs.declared.report.Report.{Report}
use Rattle.plinq_run.specs.declared.run_fault.RunFault.{RunFault}
use Rattle.plinq_run.specs.declared.run_fault.RunFault.TheVariants.{Memory, Sink, Tickets, Thread, Incomplete, Cancelled}
use Rattle.plinq_run.specs.Stopping.{ReportsSome}
use Rattle.plinq_run.proofs.After.{sinks, stopped-number, stops-after}
use Rattle.plinq_cli.specs.inner.StoppedRun.{Leaves}

module _ {K T : Type 0} (accepts : K → List T → K → Type 0) (refuses : K → List T → ℕ → K → Type 0) (option : MergeOption)
    (May : Trace T → Trace T → Type 0) (t : Trace T) (s s' : K) where
  passed : (d : Delivery CancelAfter K) (b : List T) (d' : Delivery CancelAfter K) → Passes AsksAfter accepts d b d' → accepts d.sink b d'.sink
  passed d b d' passes = passes.taken

  refused : (d : Delivery CancelAfter K) (b : List T) (code : ℕ) (d' : Delivery CancelAfter K) → IsRefused AsksAfter refuses d b code d'
      → refuses d.sink b code d'.sink
  refused d b code d' refusal = refusal.refused

  cut : (d : Delivery CancelAfter K) (bs : List (List T)) (fault : MergeFault) (d' : Delivery CancelAfter K)
      → StopsShort (Passes AsksAfter accepts) (IsRefused AsksAfter refuses) d bs fault d' → StopsShort accepts refuses d.sink bs fault d'.sink
  cut d bs fault d' =
      cut-map (λ x. x.sink) (Passes AsksAfter accepts) (IsRefused AsksAfter refuses) accepts refuses passed refused d bs (delivery_fault_of fault) d'

  module _ (c c' : CancelAfter) (n : ℕ) (small : n ≤ 18446744073709551615) (is : most_of c ≡ n) where
    abbrev before : Delivery CancelAfter K
    before = record { token = c; sink = s; delivered = 0 }

    abbrev after : ℕ → Delivery CancelAfter K
    after delivered = record { token = c'; sink = s'; delivered = delivered }

    within : most_of c ≤ 18446744073709551615
    within = omega (arith, small, is)

    pub leaves-with : (r : Result Report RunFault) → ReportsSome AsksAfter accepts refuses option May t c s 0 r c' s'
        → Leaves accepts refuses option May t (Some n) s s' r
    leaves-with (Ok report) some =
        let h = some.1 in
        let last = h.last in
        let reported = h.reported in
        let lets = h.lets in
        let stops = stops-after accepts refuses option reported.answer before (after some.0) refl within (Ok report) (last, reported.has_run, lets) in (
          record {
            answer = reported.answer;
            may = reported.may;
            accounts = reported.accounts;
            has_run = record { delivered = stops.1; ending = reported.has_run.ending };
          },
          omega (arith, stops.0, is),
        )
    leaves-with (Err Cancelled) some =
        let h = some.1 in
        let stopped = h.stopped in
        let last = stopped.last in
        let stops = stopped.stops in
        record {
          answer = h.answer;
          may = h.may;
          sent = stopped.sent;
          rest = stopped.rest;
          first = stopped.parts;
          number = ap Some (sym (stopped-number accepts before (batches option h.answer) (after some.0) refl within stopped ∙ is));
          leads = subst (λ x. Leads accepts s stopped.sent x) (sym stops.sink) (sinks accepts before stopped.sent last stopped.leads);
        }
    leaves-with (Err (Sink code)) some =
        let h = some.1 in
        record { answer = h.answer; may = h.may; broken = cut before (batches option h.answer) (Refusal code) (after some.0) h.broken }
    leaves-with (Err Memory) some =
        let h = some.1 in
        record { answer = h.answer; may = h.may; broken = cut before (batches option h.answer) NoMemory (after some.0) h.broken }
    leaves-with (Err Tickets) some =
        let h = some.1 in
        record { answer = h.answer; may = h.may; broken = cut before (batches option h.answer) NoMemory (after some.0) h.broken }
    leaves-with (Err Thread) some =
        let h = some.1 in
        record { answer = h.answer; may = h.may; broken = cut before (batches option h.answer) NoMemory (after some.0) h.broken }
    leaves-with (Err Incomplete) some =
        let h = some.1 in
        record { answer = h.answer; may = h.may; broken = cut before (batches option h.answer) NoMemory (after some.0) h.broken }
