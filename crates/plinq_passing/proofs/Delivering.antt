-- What a run of what steps make says of the query.
use Rattle.std.specs.Prelude.{◌≡◌, ℕ, List, Bool, Some, Option, Result, Ok, Err}
use Rattle.std.proofs.Common.{refl, ◌∙◌, ap, subst}
use Rattle.std.proofs.Math.Path.{fun_ext}
use Rattle.plinq_source.specs.declared.ending.Ending.{Ending}
use Rattle.plinq_source.specs.declared.ending.Ending.TheVariants.{End, Refused, Fault}
use Rattle.plinq_source.specs.Trace.{Trace}
use Rattle.plinq_ops.specs.declared.merge_option.MergeOption.{MergeOption}
use Rattle.plinq_ops.specs.declared.merge_option.MergeOption.TheVariants.{Default, NotBuffered, AutoBuffered, FullyBuffered}
use Rattle.plinq_ops.specs.Batches.{batches}
use Rattle.plinq_ops.specs.Query.{merge_in_force}
use Rattle.plinq_groups.specs.Mapping.{mapped_items, mapped_items-kept}
use Rattle.plinq_mapped.specs.Mapped.{made_of, trace_at}
use Rattle.plinq_run.specs.declared.run_fault.RunFault.{RunFault}
use Rattle.plinq_run.specs.declared.run_fault.RunFault.TheVariants.{Memory, Sink, Tickets, Thread, Incomplete, Cancelled}
use Rattle.plinq_stopping.specs.Asking.{WasLetBy, WasStoppedBy}
use Rattle.plinq_stopping.specs.Outcomes.{RunsMadeOfWith}
use Rattle.plinq_passing.specs.Ran.{Ran, steps_made, told_ran}
use Rattle.plinq_passing.specs.Told.{AskedFor}

-- an option that was given is in force
pub in-force : {B : Type 0} (o : MergeOption) (v : Trace B) → batches (merge_in_force (Some o)) v ≡ batches o v
in-force Default v = refl
in-force NotBuffered v = refl
in-force AutoBuffered v = refl
in-force FullyBuffered v = refl

module _ {K T B C : Type 0} (accepts : K → List B → K → Type 0) (refuses : K → List B → ℕ → K → Type 0) (asks : C → ℕ → Bool → C → Type 0)
    (makes : T → Result (Option B) ℕ) (option : MergeOption) (t : Trace T) (c c' : C) (s : K) where
  abbrev Has : Result Ending RunFault → K → Type 0
  Has r s' = RunsMadeOfWith asks accepts refuses option makes (λ u. u ≡ t) c s r c' s'

  -- before it was told how the run went, its token was asked
  pub asked-told : (r : Result Ending RunFault) (s' : K) → Has r s' → AskedFor (WasLetBy asks c) (told_ran r)
  asked-told (Ok End) s' h = (c', h.3)
  asked-told (Ok (Refused code)) s' h = (c', h.3)
  asked-told (Ok (Fault code)) s' h = (c', h.3)
  asked-told (Err (Sink code)) s' h = (c', h.3)
  asked-told (Err fault) s' h = tt

  module _ (workers : ℕ) (growth : Option (ℕ × ℕ × ℕ)) where
    abbrev Went : Trace T → Result Ending RunFault → K → Type 0
    Went u r s' = Ran accepts refuses (WasStoppedBy asks c) workers growth (batches option (made_of makes u)) (made_of makes u).ending s (told_ran r) s'

    ran-told : (r : Result Ending RunFault) (s' : K) → Has r s' → Went t r s'
    ran-told (Ok End) s' h = subst (λ u. Went u (Ok End) s') h.1 (h.2.delivered, h.2.ending)
    ran-told (Ok (Refused code)) s' h = subst (λ u. Went u (Ok (Refused code)) s') h.1 (h.2.delivered, h.2.ending, λ well. absurd (cc))
    ran-told (Ok (Fault code)) s' h = subst (λ u. Went u (Ok (Fault code)) s') h.1 (h.2.delivered, h.2.ending, λ well. absurd (cc))
    ran-told (Err Cancelled) s' h = subst (λ u. Went u (Err Cancelled) s') h.1 ((c', h.3), h.2)
    ran-told (Err (Sink code)) s' h = subst (λ u. Went u (Err (Sink code)) s') h.1 h.2
    ran-told (Err Memory) s' h = subst (λ u. Went u (Err Memory) s') h.1 h.2
    ran-told (Err Tickets) s' h = subst (λ u. Went u (Err Tickets) s') h.1 h.2
    ran-told (Err Thread) s' h = subst (λ u. Went u (Err Thread) s') h.1 h.2
    ran-told (Err Incomplete) s' h = subst (λ u. Went u (Err Incomplete) s') h.1 h.2

module _ {T B : Type 0} (makes : T → Result (Option B) ℕ) (step : T → Option B) (same : (x : T) → makes x ≡ Ok (step x)) where
  made-steps : (u : Trace T) → made_of makes u ≡ steps_made step u
  made-steps u =
      ap (λ m. trace_at (mapped_items m u.items).0 (mapped_items m u.items).1 u.ending) (fun_ext same)
      ∙ ap (λ p. trace_at p.0 p.1 u.ending) (mapped_items-kept step u.items)

  -- what a run delivers by a plan that has this option
  pub ran-steps : {K C : Type 0} (accepts : K → List B → K → Type 0) (refuses : K → List B → ℕ → K → Type 0) (asks : C → ℕ → Bool → C → Type 0) (c c' : C)
      (workers : ℕ) (growth : Option (ℕ × ℕ × ℕ)) (plan : Option MergeOption) (option : MergeOption) → plan ≡ Some option
      → (t : Trace T) (s : K) (r : Result Ending RunFault) (s' : K)
      → RunsMadeOfWith asks accepts refuses (merge_in_force plan) makes (λ u. u ≡ t) c s r c' s'
      → Ran accepts refuses (WasStoppedBy asks c) workers growth (batches option (steps_made step t)) t.ending s (told_ran r) s'
  ran-steps accepts refuses asks c c' workers growth plan option is t s r s' ran =
      subst (λ bs. Ran accepts refuses (WasStoppedBy asks c) workers growth bs t.ending s (told_ran r) s')
      (ap (λ o. batches (merge_in_force o) (steps_made step t)) is ∙ in-force option (steps_made step t))
      (subst (λ v. Ran accepts refuses (WasStoppedBy asks c) workers growth (batches (merge_in_force plan) v) v.ending s (told_ran r) s') (made-steps t)
      (ran-told accepts refuses asks makes (merge_in_force plan) t c c' s workers growth r s' ran))
