-- Accumulators that are combined one after another.
use Rattle.std.specs.Prelude.{◌≡◌, refl, ⊤, List, Option, Some, None, Result, Ok, Err}
use Rattle.std.specs.List.{fold}
use Rattle.std.proofs.Common.{sym, ◌∙◌, ap, subst}
use Rattle.std.proofs.lemmas.List.Sums.{fold-append}
use Rattle.plinq_source.specs.declared.ending.Ending.{Ending}
use Rattle.plinq_source.specs.Trace.{Trace, open_trace, followed_by}
use Rattle.plinq_source.proofs.Followed.{followed_by-ended}
use Rattle.plinq_aggregate.specs.Folding.{Folding}
use Rattle.plinq_merge.specs.declared.delivery_fault.DeliveryFault.{DeliveryFault}
use Rattle.plinq_merge.specs.declared.delivery_fault.DeliveryFault.TheVariants.{Memory, Sink}
use Rattle.plinq_merge.specs.Taking.{IsTaking}
use Rattle.plinq_stopping.specs.declared.sums.Sums.{Sums}

module _ {T A O : Type 0} (f : Folding T A O) where
  -- a trace of accumulators was combined after another one, and the answer ends as it does; only memory may run out
  abbrev pub Combines : A → Trace A → Result (Option Ending) DeliveryFault → A → Type 0
  Combines acc t (Ok e) acc' = (t.ending ≡ e) × (acc' ≡ fold f.combine acc t.items)
  Combines acc t (Err Memory) acc' = ⊤
  Combines acc t (Err (Sink code)) acc' = ⊥

  combines-on : (acc : A) (xs : List A) (acc1 : A) (t : Trace A) (r : Result (Option Ending) DeliveryFault) (acc2 : A)
      → Combines acc (open_trace xs) (Ok None) acc1 → Combines acc1 t r acc2 → Combines acc (followed_by (open_trace xs) t) r acc2
  combines-on acc xs acc1 t (Ok e) acc2 first second =
      (second.0, second.1 ∙ ap (λ a. fold f.combine a t.items) first.1 ∙ sym (fold-append f.combine acc xs t.items))
  combines-on acc xs acc1 t (Err Memory) acc2 first second = tt
  combines-on acc xs acc1 t (Err (Sink code)) acc2 first second = second

  combines-broken : (acc : A) (t : Trace A) (fault : DeliveryFault) (acc1 : A) (rest : Trace A) → Combines acc t (Err fault) acc1
      → Combines acc (followed_by t rest) (Err fault) acc1
  combines-broken acc t Memory acc1 rest broken = tt
  combines-broken acc t (Sink code) acc1 rest broken = broken

-- by the same aggregator
pub record SummedBy {F T A O : Type 0} (folding : F → Folding T A O) (d : Sums F) (acc : A) (t : Trace A) (r : Result (Option Ending) DeliveryFault)
    (d' : Sums F) (acc' : A) : Type 0 where
  pub same : d'.aggregator ≡ d.aggregator
  pub combines : Combines (folding d.aggregator.now) acc t r acc'

pub summed-lawful : {F T A O : Type 0} (folding : F → Folding T A O) → IsTaking (SummedBy folding)
summed-lawful folding =
    record {
      begins = λ d x. record { same = refl; combines = (refl, refl) };
      goes_on = λ d x xs d1 x1 t r d2 x2 first second.
          record {
            same = second.same ∙ first.same;
            combines = combines-on (folding d.aggregator.now) x xs x1 t r x2 first.combines
                (subst (λ a. Combines (folding a.now) x1 t r x2) first.same second.combines);
          };
      ends = λ d x t e d' x' rest made. subst (λ u. SummedBy folding d x u (Ok (Some e)) d' x') (sym (followed_by-ended t rest e made.combines.0)) made;
      breaks = λ d x t fault d' x' rest made. record
          { same = made.same; combines = combines-broken (folding d.aggregator.now) x t fault x' rest made.combines };
      stops = λ d x xs d' x' rest made. record { same = made.same; combines = tt };
    }
