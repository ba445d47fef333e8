-- What a clause says of a merger.
use Rattle.std.specs.Prelude.{ℕ, List, Bool, true, false, Result, Ok, Err}
use Rattle.plinq_source.specs.declared.ending.Ending.{Ending}
use Rattle.plinq_lambda.specs.declared.lambda.Lambda.{Ghosts}
use Rattle.plinq_ops.specs.declared.results.ChunkResult.{ChunkResult}
use Rattle.plinq_merge.specs.declared.merge_fault.MergeFault.{MergeFault}
use Rattle.plinq_merge.specs.declared.merge_fault.MergeFault.TheVariants.{Memory, Sink, Twice, Gap, Failed, Cancelled}
use Rattle.plinq_merge.specs.declared.more.More.{More}
use Rattle.plinq_merge.specs.declared.merger.Merger.{Merger}
use Rattle.plinq_merge.specs.declared.delivery_fault.DeliveryFault.{DeliveryFault}
use Rattle.plinq_merge.specs.declared.delivery_fault.DeliveryFault.TheVariants.{Memory as NoMemory, Sink as Refusal}
use Rattle.plinq_merge.specs.Cancelling.{Delivery, Passes, IsRefused, IsKeptBack}
use Rattle.plinq_merge.specs.Sending.{Leads, IsCutOff}
use Rattle.plinq_merge.specs.Shown.{Merge}
use Rattle.plinq_merge.specs.Working.{merge_of}
use Rattle.plinq_merge.specs.Offering.{StandsFor, OffersAt, OffersWithAt}
use Rattle.plinq_merge.specs.Joiners.{has_decided, ending_of}

module _ {L T : Type 0} {lambda : Ghosts L T} where
  -- what a merger is made for
  abbrev pub plan_of : Merger L T lambda → Merge T
  plan_of m = merge_of lambda.meaning m.decided m.joiner.work

  -- it stands for these offers; a failed one stands for none
  abbrev pub IsFor : Merger L T lambda → List (ChunkResult T) → Type 0
  IsFor m offers = StandsFor lambda.meaning m.decided m.joiner.work m.joiner.standing offers

  -- what an offer answers, and what it does to the merger and to the sink
  abbrev pub Offers : {K : Type 0} → (K → List T → K → Type 0) → (K → List T → ℕ → K → Type 0)
      → Merger L T lambda → ChunkResult T → K → Result More MergeFault → Merger L T lambda → K → Type 0
  Offers accepts refuses m r s result m' s' =
      OffersAt lambda.meaning m.decided accepts refuses m.joiner.work m.joiner.standing r s result m'.joiner.work m'.joiner.standing s'

  -- the same of an offer with a token, and of the number of batches
  abbrev pub OffersWith : {C K : Type 0} → (C → ℕ → Bool → C → Type 0) → (K → List T → K → Type 0) → (K → List T → ℕ → K → Type 0)
      → Merger L T lambda → ChunkResult T → Delivery C K → Result More MergeFault → Merger L T lambda → Delivery C K → Type 0
  OffersWith asks accepts refuses m r d result m' d' =
      OffersWithAt lambda.meaning m.decided asks accepts refuses m.joiner.work m.joiner.standing r d result m'.joiner.work m'.joiner.standing d'

  -- how many batches it has delivered, or the greatest number
  abbrev pub delivered_of : Merger L T lambda → ℕ
  delivered_of m = m.delivered

  -- what it reports of its answer; a failed one reports none
  abbrev pub tells_decided : Merger L T lambda → Bool
  tells_decided m = has_decided m.joiner

  abbrev pub tells_ending : Merger L T lambda → Result Ending MergeFault
  tells_ending m = ending_of m.joiner

-- what a fault says of the batches that weren't delivered: the sink refused the next one, or it wasn't tried
abbrev pub delivery_fault_of : MergeFault → DeliveryFault
delivery_fault_of (Sink code) = Refusal code
delivery_fault_of Memory = NoMemory
delivery_fault_of Twice = NoMemory
delivery_fault_of Gap = NoMemory
delivery_fault_of Failed = NoMemory
delivery_fault_of Cancelled = NoMemory

-- the sink has taken the first of these batches, and the fault says why not all
abbrev pub StopsShort : {K B : Type 0} → (K → B → K → Type 0) → (K → B → ℕ → K → Type 0) → K → List B → MergeFault → K → Type 0
StopsShort accepts refuses s bs fault s' = IsCutOff accepts refuses s bs (delivery_fault_of fault) s'

-- some batches were delivered, or the first of some; no offer without a token is cancelled
abbrev pub SendsSome : {K B : Type 0} → (K → B → K → Type 0) → (K → B → ℕ → K → Type 0) → K → Result More MergeFault → K → Type 0
SendsSome {K} {B} accepts refuses s (Ok more) s' = (bs : List B) × Leads accepts s bs s'
SendsSome accepts refuses s (Err Cancelled) s' = ⊥
SendsSome {K} {B} accepts refuses s (Err fault) s' = (bs : List B) × StopsShort accepts refuses s bs fault s'

-- the token was asked before each of them, and where that stopped the delivery, before one more
abbrev pub AsksEach : {C K T : Type 0} → (C → ℕ → Bool → C → Type 0) → (K → List T → K → Type 0) → (K → List T → ℕ → K → Type 0)
    → Delivery C K → Result More MergeFault → Delivery C K → Type 0
AsksEach asks accepts refuses d (Ok more) d' = SendsSome (Passes asks accepts) (IsRefused asks refuses) d (Ok more) d'
AsksEach {C} {K} {T} asks accepts refuses d (Err Cancelled) d' = (bs : List (List T)) × IsKeptBack asks accepts d bs d'
AsksEach asks accepts refuses d (Err fault) d' = SendsSome (Passes asks accepts) (IsRefused asks refuses) d (Err fault) d'

-- the token has stopped it
abbrev pub is_cancelled : Result More MergeFault → Bool
is_cancelled (Ok more) = false
is_cancelled (Err Cancelled) = true
is_cancelled (Err fault) = false
