-- An offer to a token and a sink that are lent together.
use Rattle.std.specs.Prelude.{◌≡◌, ◌||◌, ℕ, List, Bool, Result}
use Rattle.plinq_lambda.specs.declared.lambda.Lambda.{Ghosts}
use Rattle.plinq_ops.specs.declared.results.ChunkResult.{ChunkResult}
use Rattle.plinq_merge.specs.declared.merge_fault.MergeFault.{MergeFault}
use Rattle.plinq_merge.specs.declared.merger.Merger.{Merger}
use Rattle.plinq_merge.specs.declared.more.More.{More}
use Rattle.plinq_merge.specs.declared.with_cancellation.WithCancellation.{WithCancellation}
use Rattle.plinq_merge.specs.Lent.{AreSame, delivery_of}
use Rattle.plinq_merge.specs.Mergers.{plan_of, is_cancelled, AsksEach, OffersWith}

-- the same two are lent after it, and the offer did to the merger and to them what one with a token does
pub record OffersLent {L C K T : Type 0} {lambda : Ghosts L T} (is_asked : C → ℕ → Bool → C → Type 0) (has_told : C → Bool)
    (accepts : K → List T → K → Type 0) (refuses : K → List T → ℕ → K → Type 0) (m : Merger L T lambda) (r : ChunkResult T)
    (w : WithCancellation C K) (result : Result More MergeFault) (m' : Merger L T lambda) (w' : WithCancellation C K) : Type 0 where
  pub same : AreSame w w'
  pub plan : plan_of m' ≡ plan_of m
  pub takes : OffersWith is_asked accepts refuses m r (delivery_of w) result m' (delivery_of w')
  pub told : has_told w'.token.now ≡ (has_told w.token.now || is_cancelled result)
  pub asks : AsksEach is_asked accepts refuses (delivery_of w) result (delivery_of w')
