-- What was combined after a token that let it begin.
use Rattle.std.specs.Prelude.{◌≡◌, ℕ, Bool, false, Option, Result}
use Rattle.std.proofs.Common.{refl, sym, ◌∙◌, subst}
use Rattle.plinq_source.specs.declared.ending.Ending.{Ending}
use Rattle.plinq_source.specs.Trace.{Trace}
use Rattle.plinq_aggregate.specs.Folding.{Folding}
use Rattle.plinq_merge.specs.declared.delivery_fault.DeliveryFault.{DeliveryFault}
use Rattle.plinq_merge.specs.declared.with_cancellation.WithCancellation.{WithCancellation}
use Rattle.plinq_merge.specs.Lent.{AreSame}
use Rattle.plinq_stopping.specs.declared.sums.Sums.{Sums}
use Rattle.plinq_stopping.specs.inner.Summing.{Combines, SummedBy}
use Rattle.plinq_stopping.specs.inner.Watching.{Went, Watches, lets-all, let-first, lets-none}

pub summed : {F C T A O : Type 0} (folding : F → Folding T A O) (asks : C → ℕ → Bool → C → Type 0) (d : Sums F) (w w' : WithCancellation C A)
    (number : ℕ) → AreSame w w' → w'.is_stopped ≡ w.is_stopped → asks w.token.now number false w'.token.now
    → (t : Trace A) (r : Result (Option Ending) DeliveryFault) → Combines (folding d.aggregator.now) w.sink.now t r w'.sink.now
    → Watches asks (λ v. v) (SummedBy folding) d w t r d w'
summed folding asks d w w' number same still asked t r combines =
    record {
      same = same;
      went = λ before.
          subst (λ b. Went asks (SummedBy folding) b w.token.now d w.sink.now t r w'.token.now d w'.sink.now) (sym (still ∙ before)) (
            lets-all asks r w.token.now w'.token.now (let-first asks w.token.now number w'.token.now w'.token.now asked
                (lets-none asks w'.token.now)),
            record { same = refl; combines = combines },
          );
    }
