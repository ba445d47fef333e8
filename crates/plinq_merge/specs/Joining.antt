-- Joining: which offers a row of keys stands for, and what one more brings to its taker.
use Rattle.std.specs.Prelude.{◌≡◌, ℕ, List, [], ◌∷◌, ◌++◌, Bool, true, false, Option, Some, None, Result, Ok, Err}
use Rattle.plinq_source.specs.declared.ending.Ending.{Ending}
use Rattle.plinq_source.specs.Trace.{Trace, open_trace, followed_by}
use Rattle.plinq_ops.specs.declared.order.Order.{Order}
use Rattle.plinq_ops.specs.declared.results.ChunkResult.{ChunkResult}
use Rattle.plinq_merge.specs.declared.delivery_fault.DeliveryFault.{DeliveryFault}
use Rattle.plinq_merge.specs.declared.delivery_fault.DeliveryFault.TheVariants.{Memory as NoMemory, Sink as Refusal}
use Rattle.plinq_merge.specs.declared.merge_fault.MergeFault.{MergeFault}
use Rattle.plinq_merge.specs.declared.merge_fault.MergeFault.TheVariants.{Memory, Sink, Twice, Gap, Failed, Cancelled}
use Rattle.plinq_merge.specs.declared.more.More.{More}
use Rattle.plinq_merge.specs.declared.more.More.TheVariants.{Yes, No}
use Rattle.plinq_merge.specs.declared.joiner_state.JoinerState.{JoinerState}
use Rattle.plinq_merge.specs.declared.joiner_state.JoinerState.TheVariants.{Open, Decided, Failed as HasFailed}
use Rattle.plinq_merge.specs.declared.row.Row.{Row}
use Rattle.plinq_merge.specs.declared.joiner.Joiner.{Joiner}
use Rattle.plinq_merge.specs.declared.joining.Joining.{Joining}
use Rattle.plinq_merge.specs.Shown.{row as row_of, merged_trace}
use Rattle.plinq_reorder.specs.Buffered.{is_taken}
use Rattle.plinq_merge.specs.OfferedKeys.{is_offered, AreNew, IsDuplicate}
use Rattle.plinq_merge.specs.Merging.{Holds}

-- what the row still gives: what waits under the next keys, and the source's ending if this is its place
abbrev pub rest_of : {T : Type 0} → Row T → Trace T
rest_of row = row_of row.source_end row.buffer.next row.buffer.held

-- the row stands for these offers, has their keys and no others, and the next key is missing: `out` is all that they merge to
pub record Waits {T : Type 0} (order : Order) (row : Row T) (offers : List (ChunkResult T)) : Type 0 where
  pub out : List T
  pub holds : Holds order row offers (open_trace out)
  pub keys : (key : ℕ) → is_offered offers key ≡ is_taken row.buffer key
  pub missing : is_taken row.buffer row.buffer.next ≡ false
  pub nothing : rest_of row ≡ open_trace []

-- where its answer is open, one result more can be joined
abbrev pub IsReady : {W T : Type 0} → (W → Bool) → Joiner W T → Type 0
IsReady can_take j = j.standing ≡ Open → can_take j.work.taker ≡ true

module _ {W O T : Type 0} (made : W → O → Trace T → Result (Option Ending) DeliveryFault → W → O → Type 0) where
  -- a result of new keys was joined: the taker has taken what the offers gain by it, and where more may follow, the row
  -- waits for it
  pub record Joins (w : Joining W T) (r : ChunkResult T) (y : O) (result : Result (Option Ending) DeliveryFault) (w' : Joining W T) (y' : O) : Type 0 where
    pub gained : Trace T
    pub taken : made w.taker y gained result w'.taker y'
    pub are_new : (offers : List (ChunkResult T)) → Waits w.order w.row offers → AreNew offers r
    pub grows : (offers : List (ChunkResult T)) → Waits w.order w.row offers
        → merged_trace w.order (offers ++ r ∷ []) ≡ followed_by (merged_trace w.order offers) gained
    pub waits : result ≡ Ok None → (offers : List (ChunkResult T)) → Waits w.order w.row offers → Waits w'.order w'.row (offers ++ r ∷ [])

  -- what an offer answers and does: where the answer is open it is joined, or one of its keys was offered before; a decided joiner
  -- answers No, a failed one Failed, and nothing changes
  abbrev pub JoinsOfferAt : Joining W T → JoinerState → ChunkResult T → O → Result More MergeFault → Joining W T → JoinerState → O → Type 0
  JoinsOfferAt w Open r y (Ok Yes) w' standing' y' = (standing' ≡ Open) × Joins w r y (Ok None) w' y'
  JoinsOfferAt w Open r y (Ok No) w' standing' y' = (e : Ending) × (standing' ≡ Decided e) × Joins w r y (Ok (Some e)) w' y'
  JoinsOfferAt w Open r y (Err Memory) w' standing' y' = (standing' ≡ HasFailed) × Joins w r y (Err NoMemory) w' y'
  JoinsOfferAt w Open r y (Err (Sink code)) w' standing' y' = (standing' ≡ HasFailed) × Joins w r y (Err (Refusal code)) w' y'
  JoinsOfferAt w Open r y (Err Twice) w' standing' y' =
      (w' ≡ w) × (standing' ≡ Open) × (y' ≡ y) × ((offers : List (ChunkResult T)) → Waits w.order w.row offers → IsDuplicate offers r)
  JoinsOfferAt w Open r y (Err Gap) w' standing' y' = ⊥
  JoinsOfferAt w Open r y (Err Failed) w' standing' y' = ⊥
  JoinsOfferAt w Open r y (Err Cancelled) w' standing' y' = ⊥
  JoinsOfferAt w (Decided e) r y result w' standing' y' = (result ≡ Ok No) × (w' ≡ w) × (standing' ≡ Decided e) × (y' ≡ y)
  JoinsOfferAt w HasFailed r y result w' standing' y' = (result ≡ Err Failed) × (w' ≡ w) × (standing' ≡ HasFailed) × (y' ≡ y)
