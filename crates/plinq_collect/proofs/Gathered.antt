-- What a run into a list reports, and what an aggregate answers.
use Rattle.std.specs.Prelude.{◌≡◌, ℕ, List, [], ◌∷◌, ◌++◌, Some, Result, Ok, Err, refl, Bool, not, MatchResult}
use Rattle.std.proofs.Common.{sym, ◌∙◌, ap, subst, append_assoc, append-nil}
use Rattle.plinq_source.specs.Trace.{Trace}
use Rattle.plinq_aggregate.specs.Folding.{Folding, aggregate_value}
use Rattle.plinq_merge.specs.Sending.{Leads}
use Rattle.plinq_ops.specs.declared.merge_option.MergeOption.{MergeOption}
use Rattle.plinq_ops.specs.Batches.{batches}
use Rattle.plinq_run.specs.declared.aggregate_fault.AggregateFault.{AggregateFault}
use Rattle.plinq_run.specs.declared.aggregate_fault.AggregateFault.TheVariants.{Ended, Run}
use Rattle.plinq_run.specs.declared.report.Report.{Report}
use Rattle.plinq_run.specs.declared.run_fault.RunFault.{RunFault}
use Rattle.plinq_run.specs.declared.run_fault.RunFault.TheVariants.{Memory, Sink, Tickets, Thread, Incomplete, Cancelled}
use Rattle.plinq_run.specs.Reports.{HasReported, Reports}
use Rattle.plinq_run.specs.Aggregates.{Aggregates, AggregatesSome}
use Rattle.plinq_collect.proofs.JoinedBatches.{items_of-batches}
use Rattle.plinq_collect.specs.ItemFoldings.{has_item, has_none}
use Rattle.plinq_collect.specs.Telling.{items_of, GathersSome, IsShort, TellsSome, LacksRoom, negated, gathered_of}

module _ {K T : Type 0} (items : K → List T) where
  -- a sink that keeps what it takes has the items of its batches
  abbrev pub Keeps : K → List T → K → Type 0
  Keeps s b s' = items s' ≡ items s ++ b

  pub kept : (s : K) (bs : List (List T)) (s' : K) → Leads Keeps s bs s' → items s' ≡ items s ++ items_of bs
  kept s [] s' is = ap items is ∙ sym (append-nil (items s))
  kept s (b ∷ bs) s' (m, one, more) = kept m bs s' more ∙ ap (λ xs. xs ++ items_of bs) one ∙ append_assoc (items s) b (items_of bs)

  -- an answer that was reported was gathered
  pub gathers : (refuses : K → List T → ℕ → K → Type 0) (option : MergeOption) (May : Trace T → Trace T → Type 0) (t : Trace T) (s s' : K) (report : Report)
      → items s ≡ [] → HasReported Keeps refuses option May t s s' report → GathersSome option (May t) (items s') report.ending
  gathers refuses option May t s s' report none h =
      let all = kept s (batches option h.answer) s' h.has_run.delivered ∙ ap (λ xs. xs ++ items_of (batches option h.answer)) none in
      record {
        answer = h.answer;
        may = h.may;
        gathered = record {
          items = all;
          all = λ well. all ∙ items_of-batches option h.answer (h.has_run.ending ∙ ap Some well);
          ending = h.has_run.ending;
        };
      }

-- an aggregate is what its folding comes to
pub tells : {T A O : Type 0} (f : Folding T A O) (tell : List T → O) (IsAnswer : Trace T → Type 0) (r : Result O AggregateFault)
    → ((xs : List T) → aggregate_value f xs ≡ tell xs) → AggregatesSome f IsAnswer r → TellsSome tell IsAnswer r
tells f tell IsAnswer (Ok out) is (u, may, so) = (u, may, so.0 ∙ is u.items, so.1)
tells f tell IsAnswer (Err (Ended e)) is (u, may, so) = (u, may, so.0, so.1)
tells f tell IsAnswer (Err (Run fault)) is (u, may, so) = so

-- and so is that of one answer
pub tells-one : {T A O : Type 0} (f : Folding T A O) (tell : List T → O) (u : Trace T) (r : Result O AggregateFault)
    → ((xs : List T) → aggregate_value f xs ≡ tell xs) → Aggregates f u r → TellsSome tell (λ v. v ≡ u) r
tells-one f tell u r is so = tells f tell (λ v. v ≡ u) r is (u, refl, so)

pub not-item : {T : Type 0} (xs : List T) → not (has_item xs) ≡ has_none xs
not-item [] = refl
not-item (x ∷ xs) = refl

-- where there is no item, all pass
pub tells-none : {T : Type 0} (IsAnswer : Trace T → Type 0) (r : Result Bool AggregateFault) → TellsSome has_item IsAnswer r
    → TellsSome has_none IsAnswer (negated r)
tells-none IsAnswer (Ok is) (u, may, value, well) = (u, may, ap not value ∙ not-item u.items, well)
tells-none IsAnswer (Err (Ended e)) so = so
tells-none IsAnswer (Err (Run fault)) so = so

pub lacks-negated : (r : Result Bool AggregateFault) → LacksRoom r → LacksRoom (negated r)
lacks-negated (Ok is) lacks = tt
lacks-negated (Err (Ended e)) lacks = tt
lacks-negated (Err (Run fault)) lacks = lacks

-- a run into a list that was empty is gathered, or was short of something
pub gathers-outcome : {K V T : Type 0} (items : K → List T) (refuses : K → List T → ℕ → K → Type 0) (option : MergeOption)
    (May : Trace T → Trace T → Type 0) (t : Trace T)
    (s s' : K) (outcome : Result Report RunFault) (read : V → List T) (list : V) → read list ≡ items s' → items s ≡ []
    → Reports (Keeps items) refuses option May t s s' outcome
    → MatchResult (gathered_of list outcome) (λ it. GathersSome option (May t) (read it.0) it.1) IsShort
gathers-outcome items refuses option May t s s' (Ok report) read list same none h =
    subst (λ xs. GathersSome option (May t) xs report.ending) (sym same) (gathers items refuses option May t s s' report none h)
gathers-outcome items refuses option May t s s' (Err (Sink code)) read list same none h = refl
gathers-outcome items refuses option May t s s' (Err Memory) read list same none h = refl
gathers-outcome items refuses option May t s s' (Err Tickets) read list same none h = refl
gathers-outcome items refuses option May t s s' (Err Thread) read list same none h = refl
gathers-outcome items refuses option May t s s' (Err Incomplete) read list same none h = refl
gathers-outcome items refuses option May t s s' (Err Cancelled) read list same none h = absurd h.broken
