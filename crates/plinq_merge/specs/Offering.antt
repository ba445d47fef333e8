-- Offers: which lists of them a merger stands for, and what one more brings.
use Rattle.std.specs.Prelude.{◌≡◌, ℕ, List, [], ◌∷◌, ◌++◌, Option, Some, None, Bool, true, false, Result, Ok, Err}
use Rattle.plinq_source.specs.declared.ending.Ending.{Ending}
use Rattle.plinq_lambda.specs.Meaning.{Meaning}
use Rattle.plinq_ops.specs.declared.results.ChunkResult.{ChunkResult}
use Rattle.plinq_merge.specs.declared.merge_fault.MergeFault.{MergeFault}
use Rattle.plinq_merge.specs.declared.merge_fault.MergeFault.TheVariants.{Memory, Sink, Twice, Gap, Failed, Cancelled}
use Rattle.plinq_merge.specs.declared.more.More.{More}
use Rattle.plinq_merge.specs.declared.more.More.TheVariants.{Yes, No}
use Rattle.plinq_merge.specs.declared.joiner_state.JoinerState.{JoinerState}
use Rattle.plinq_merge.specs.declared.joiner_state.JoinerState.TheVariants.{Open, Decided, Failed as HasFailed}
use Rattle.plinq_merge.specs.declared.delivery_fault.DeliveryFault.TheVariants.{Memory as NoMemory, Sink as Refusal}
use Rattle.plinq_merge.specs.Cancelling.{Delivery, Passes, IsRefused, IsKeptBack}
use Rattle.plinq_merge.specs.Sending.{Leads, IsCutOff}
use Rattle.plinq_merge.specs.Shown.{Merge, answer, shown_batches}
use Rattle.plinq_merge.specs.OfferedKeys.{AreNew, IsDuplicate}
use Rattle.plinq_merge.specs.Working.{Work, merge_of, Rests}

-- the merger stands for these offers: with them the answer is open, or it has this ending; a failed one stands for none
abbrev pub StandsFor : {L T : Type 0} → (L → Meaning T) → Bool → Work L T → JoinerState → List (ChunkResult T) → Type 0
StandsFor meaning decided w Open offers = Rests meaning decided w offers
StandsFor meaning decided w (Decided e) offers = (answer (merge_of meaning decided w) offers).ending ≡ Some e
StandsFor meaning decided w HasFailed offers = ⊥

-- the result is new, and of the batches that the definition gains by it this much was sent
pub record Brings {T : Type 0} (merge : Merge T) (offers : List (ChunkResult T)) (r : ChunkResult T) (Sent : List (List T) → Type 0) : Type 0 where
  pub are_new : AreNew offers r
  pub gained : List (List T)
  pub grows : shown_batches merge (offers ++ r ∷ []) ≡ shown_batches merge offers ++ gained
  pub sent : Sent gained

-- what an offer answers and does: where the answer is open it is taken in, or one of its keys was offered before; a decided merger
-- answers No, a failed one Failed, and nothing changes
abbrev pub OffersAt : {L K T : Type 0} → (L → Meaning T) → Bool → (K → List T → K → Type 0) → (K → List T → ℕ → K → Type 0)
    → Work L T → JoinerState → ChunkResult T → K → Result More MergeFault → Work L T → JoinerState → K → Type 0
OffersAt {L} {K} {T} meaning decided accepts refuses w Open r s (Ok Yes) w' standing' s' =
    (standing' ≡ Open) × ((offers : List (ChunkResult T)) → Rests meaning decided w offers
    → Brings (merge_of meaning decided w) offers r (λ gained. Leads accepts s gained s') × Rests meaning decided w' (offers ++ r ∷ []))
OffersAt {L} {K} {T} meaning decided accepts refuses w Open r s (Ok No) w' standing' s' =
    (e : Ending) × (standing' ≡ Decided e) × ((offers : List (ChunkResult T)) → Rests meaning decided w offers
    → Brings (merge_of meaning decided w) offers r (λ gained. Leads accepts s gained s')
    × ((answer (merge_of meaning decided w) (offers ++ r ∷ [])).ending ≡ Some e))
OffersAt {L} {K} {T} meaning decided accepts refuses w Open r s (Err Memory) w' standing' s' =
    (standing' ≡ HasFailed) × ((offers : List (ChunkResult T)) → Rests meaning decided w offers
    → Brings (merge_of meaning decided w) offers r (λ gained. IsCutOff accepts refuses s gained NoMemory s'))
OffersAt {L} {K} {T} meaning decided accepts refuses w Open r s (Err (Sink code)) w' standing' s' =
    (standing' ≡ HasFailed) × ((offers : List (ChunkResult T)) → Rests meaning decided w offers
    → Brings (merge_of meaning decided w) offers r (λ gained. IsCutOff accepts refuses s gained (Refusal code) s'))
OffersAt {L} {K} {T} meaning decided accepts refuses w Open r s (Err Twice) w' standing' s' =
    (w' ≡ w) × (standing' ≡ Open) × (s' ≡ s) × ((offers : List (ChunkResult T)) → Rests meaning decided w offers → IsDuplicate offers r)
OffersAt meaning decided accepts refuses w Open r s (Err Gap) w' standing' s' = ⊥
OffersAt meaning decided accepts refuses w Open r s (Err Failed) w' standing' s' = ⊥
OffersAt meaning decided accepts refuses w Open r s (Err Cancelled) w' standing' s' = ⊥
OffersAt meaning decided accepts refuses w (Decided e) r s result w' standing' s' = (result ≡ Ok No) × (w' ≡ w) × (standing' ≡ Decided e) × (s' ≡ s)
OffersAt meaning decided accepts refuses w HasFailed r s result w' standing' s' = (result ≡ Err Failed) × (w' ≡ w) × (standing' ≡ HasFailed) × (s' ≡ s)

-- the token kept a batch back: the merger has failed, and of the batches that the definition gains the first were delivered
abbrev pub IsCancelled : {L C K T : Type 0} → (L → Meaning T) → Bool → (C → ℕ → Bool → C → Type 0) → (K → List T → K → Type 0)
    → Work L T → JoinerState → ChunkResult T → Delivery C K → JoinerState → Delivery C K → Type 0
IsCancelled {L} {C} {K} {T} meaning decided asks accepts w standing r d standing' d' =
    (standing ≡ Open) × (standing' ≡ HasFailed) × ((offers : List (ChunkResult T)) → Rests meaning decided w offers
    → Brings (merge_of meaning decided w) offers r (λ gained. IsKeptBack asks accepts d gained d'))

-- the same of an offer with a token, which is asked before each batch
abbrev pub OffersWithAt : {L C K T : Type 0} → (L → Meaning T) → Bool → (C → ℕ → Bool → C → Type 0) → (K → List T → K → Type 0) → (K → List T → ℕ → K → Type 0)
    → Work L T → JoinerState → ChunkResult T → Delivery C K → Result More MergeFault → Work L T → JoinerState → Delivery C K → Type 0
OffersWithAt meaning decided asks accepts refuses w standing r d (Ok more) w' standing' d' =
    OffersAt meaning decided (Passes asks accepts) (IsRefused asks refuses) w standing r d (Ok more) w' standing' d'
OffersWithAt meaning decided asks accepts refuses w standing r d (Err Cancelled) w' standing' d' =
    IsCancelled meaning decided asks accepts w standing r d standing' d'
OffersWithAt meaning decided asks accepts refuses w standing r d (Err fault) w' standing' d' =
    OffersAt meaning decided (Passes asks accepts) (IsRefused asks refuses) w standing r d (Err fault) w' standing' d'

abbrev pub is_decided : JoinerState → Bool
is_decided Open = false
is_decided (Decided e) = true
is_decided HasFailed = false

-- how a merger finishes: with the answer's ending, or with Gap where it is open
abbrev pub finish_result : JoinerState → Result Ending MergeFault
finish_result Open = Err Gap
finish_result (Decided e) = Ok e
finish_result HasFailed = Err Failed

abbrev pub finish_of : Option Ending → Result Ending MergeFault
finish_of None = Err Gap
finish_of (Some e) = Ok e
