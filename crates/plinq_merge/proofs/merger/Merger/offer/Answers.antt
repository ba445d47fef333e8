use Rattle.std.proofs.Common.{◌≡◌, ℕ, true, false, Bool}
use Rattle.plinq_merge.specs.declared.never_cancel.NeverCancel.{NeverCancel}
use Rattle.plinq_merge.specs.Cancelling.{Counts, CountsNot}
use Rattle.plinq_merge.proofs.Lent.{offers-seen}
use Rattle.plinq_merge.proofs.merger.Merger.offer.Goals as goal

abbrev never : NeverCancel → ℕ → Bool → NeverCancel → Type 0
never t n answer t' = answer ≡ false

nothing-stops : (t t' : NeverCancel) (n : ℕ) → never t n true t' → ⊥
nothing-stops t t' n bad = cc

pub returns-clause-takes : goal.returns-clause-takes
returns-clause-takes g c =
    offers-seen never nothing-stops _ _ _ _ _ _ (λ d. d.sink) (λ d b d' passes. passes.taken) (λ d b code d' refused. refused.refused)
    _ _ _ _ _ _ _ _ c.offer_with.ensures.asks c.offer_with.ensures.takes

pub returns-clause-counts : goal.returns-clause-counts
returns-clause-counts g c =
    offers-seen never nothing-stops _ _ _ _ (Counts g.K.Sink.accepts) (CountsNot g.K.Sink.refuses) (λ d. record { sink = d.sink; delivered = d.delivered })
    (λ d b d' passes. (passes.taken, passes.counts)) (λ d b code d' refused. (refused.refused, refused.counts))
    _ _ _ _ _ _ _ _ c.offer_with.ensures.asks c.offer_with.ensures.takes
