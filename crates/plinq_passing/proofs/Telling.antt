-- What an aggregate of what steps make says of the query.
use Rattle.std.specs.Prelude.{◌≡◌, ℕ, Bool, List, Some, None, Option, Result, Ok, Err, MatchResult}
use Rattle.std.specs.List.{filter_map}
use Rattle.std.proofs.Common.{◌∙◌, ap, subst}
use Rattle.std.proofs.Math.Path.{fun_ext}
use Rattle.plinq_source.specs.declared.ending.Ending.TheVariants.{End}
use Rattle.plinq_source.specs.Trace.{Trace}
use Rattle.plinq_aggregate.specs.Folding.{Folding, aggregate_value}
use Rattle.plinq_groups.specs.Mapping.{mapped_items, mapped_items-kept}
use Rattle.plinq_groups.specs.FoldedEach.{folding_each, fold_of-each}
use Rattle.plinq_run.specs.declared.aggregate_fault.AggregateFault.{AggregateFault}
use Rattle.plinq_run.specs.declared.aggregate_fault.AggregateFault.TheVariants.{Ended, Run}
use Rattle.plinq_run.specs.Aggregates.{Aggregates}
use Rattle.plinq_run.specs.declared.run_fault.RunFault.TheVariants.{Memory, Sink, Cancelled}
use Rattle.plinq_stopping.specs.Asking.{WasLetBy, WasStoppedBy}
use Rattle.plinq_stopping.specs.Outcomes.{AggregatesWith}
use Rattle.plinq_collect.specs.Telling.{LacksRoom}
use Rattle.plinq_passing.specs.Told.{AskedFor, HasNone, HasNoneAlone, told_of}

module _ {T B A O : Type 0} (makes : T → Result (Option B) ℕ) (step : T → Option B) (same : (x : T) → makes x ≡ Ok (step x)) (f : Folding B A O) where
  -- what is folded is what the steps make
  pub value-of : (xs : List T) → aggregate_value (folding_each makes f) xs ≡ (aggregate_value f (filter_map step xs), None)
  value-of xs =
      ap (λ a. (f.tell a.0, a.1)) (fold_of-each makes f xs)
      ∙ ap (λ m. (aggregate_value f (mapped_items m xs).0, (mapped_items m xs).1)) (fun_ext same)
      ∙ ap (λ p. (aggregate_value f p.0, p.1)) (mapped_items-kept step xs)

  module _ {C : Type 0} (asks : C → ℕ → Bool → C → Type 0) (c c' : C) (t : Trace T) where
    pub told-some : (workers : ℕ) (growth : Option (ℕ × ℕ × ℕ)) (r : Result (O × Option ℕ) AggregateFault)
        → AggregatesWith asks (folding_each makes f) (λ u. u ≡ t) c r c'
        → MatchResult (told_of r) (λ out. (out ≡ aggregate_value f (filter_map step t.items)) × (t.ending ≡ Some End))
        (HasNone (WasStoppedBy asks c) workers growth t)
    told-some workers growth (Ok out) is =
        let all = subst (λ u. Aggregates (folding_each makes f) u (Ok out)) is.1 is.2 in
        (ap (λ p. p.0) (all.0 ∙ value-of t.items), all.1)
    told-some workers growth (Err (Ended e)) is = subst (λ u. Aggregates (folding_each makes f) u (Err (Ended e))) is.1 is.2
    told-some workers growth (Err (Run Cancelled)) is = (c', is)
    told-some workers growth (Err (Run Memory)) is = tt
    told-some workers growth (Err (Run (Sink code))) is = absurd (cc)
    told-some workers growth (Err (Run fault)) is = tt

    -- before a value or an ending is reported the token was asked
    pub asked-some : (r : Result (O × Option ℕ) AggregateFault) → AggregatesWith asks (folding_each makes f) (λ u. u ≡ t) c r c'
        → AskedFor (WasLetBy asks c) (told_of r)
    asked-some (Ok out) is = (c', is.3)
    asked-some (Err (Ended e)) is = (c', is.3)
    asked-some (Err (Run (Sink code))) is = absurd (cc)
    asked-some (Err (Run fault)) is = tt

  -- the same on one thread
  pub told-alone : (t : Trace T) (r : Result (O × Option ℕ) AggregateFault) → Aggregates (folding_each makes f) t r → LacksRoom r
      → MatchResult (told_of r) (λ out. (out ≡ aggregate_value f (filter_map step t.items)) × (t.ending ≡ Some End)) (HasNoneAlone t)
  told-alone t (Ok out) is short = (ap (λ p. p.0) (is.0 ∙ value-of t.items), is.1)
  told-alone t (Err (Ended e)) is short = is
  told-alone t (Err (Run fault)) is short = short
