-- What a clause says of a joiner.
use Rattle.std.specs.Prelude.{List, Bool, Option, Some, None, Result, Ok}
use Rattle.plinq_source.specs.declared.ending.Ending.{Ending}
use Rattle.plinq_source.specs.Trace.{Trace}
use Rattle.plinq_ops.specs.declared.order.Order.{Order}
use Rattle.plinq_ops.specs.declared.results.ChunkResult.{ChunkResult}
use Rattle.plinq_merge.specs.declared.delivery_fault.DeliveryFault.{DeliveryFault}
use Rattle.plinq_merge.specs.declared.merge_fault.MergeFault.{MergeFault}
use Rattle.plinq_merge.specs.declared.more.More.{More}
use Rattle.plinq_merge.specs.declared.joiner_state.JoinerState.{JoinerState}
use Rattle.plinq_merge.specs.declared.joiner_state.JoinerState.TheVariants.{Open, Decided, Failed}
use Rattle.plinq_merge.specs.declared.joiner.Joiner.{Joiner}
use Rattle.plinq_merge.specs.declared.joining.Joining.{Joining}
use Rattle.plinq_merge.specs.Shown.{merged_trace}
use Rattle.plinq_merge.specs.Offering.{is_decided, finish_result}
use Rattle.plinq_merge.specs.Joining.{Waits, JoinsOfferAt}

module _ {W T : Type 0} where
  -- what takes the items
  abbrev pub taker_of : Joiner W T → W
  taker_of j = j.work.taker

  abbrev pub order_of : Joiner W T → Order
  order_of j = j.work.order

  -- its row of keys stands for these offers, and the next key is missing
  abbrev pub WaitsFor : Joiner W T → List (ChunkResult T) → Type 0
  WaitsFor j offers = Waits j.work.order j.work.row offers

  -- what it reports of the answer; a failed one reports none
  abbrev pub has_decided : Joiner W T → Bool
  has_decided j = is_decided j.standing

  abbrev pub ending_of : Joiner W T → Result Ending MergeFault
  ending_of j = finish_result j.standing

module _ {W O T : Type 0} (made : W → O → Trace T → Result (Option Ending) DeliveryFault → W → O → Type 0) where
  -- what an offer answers, and what it does to the joiner and to where its taker puts things
  abbrev pub JoinsOffer : Joiner W T → ChunkResult T → O → Result More MergeFault → Joiner W T → O → Type 0
  JoinsOffer j r y result j' y' = JoinsOfferAt made j.work j.standing r y result j'.work j'.standing y'

  module _ (a : W) (x : O) where
    abbrev pub HasJoinedAt : Joining W T → JoinerState → O → List (ChunkResult T) → Type 0
    HasJoinedAt w Open y offers = Waits w.order w.row offers × made a x (merged_trace w.order offers) (Ok None) w.taker y
    HasJoinedAt w (Decided e) y offers = made a x (merged_trace w.order offers) (Ok (Some e)) w.taker y
    HasJoinedAt w Failed y offers = ⊥

    -- from this taker on it has taken what these offers merge to, and the answer is open or has ended; a failed one stands for
    -- none
    abbrev pub HasJoined : Joiner W T → O → List (ChunkResult T) → Type 0
    HasJoined j y offers = HasJoinedAt j.work j.standing y offers
