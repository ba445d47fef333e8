-- What all partitions of a source took, together.
use Rattle.std.specs.Prelude.{◌≡◌, ℕ, List, [], ◌∷◌, ◌++◌, take, Option, Some, None}
use Rattle.std.specs.List.{AllZip, FoldsTo}
use Rattle.std.proofs.Common.{arith, ap}
use Rattle.plinq_source.specs.Trace.{Trace}
use Rattle.plinq_keyed.specs.declared.chunk.Chunk.{Chunk}
use Rattle.plinq_keyed.specs.declared.event.Event.TheVariants.{Close}
use Rattle.plinq_keyed.specs.declared.keyed.Keyed.{Keyed}
use Rattle.plinq_keyed.specs.declared.record.Record.{Record}
use Rattle.plinq_keyed.specs.History.{IsChunkOf, IsLegalHistory, given_by}
use Rattle.plinq_keyed.specs.Keys.{keyed_from}
use Rattle.plinq_enumerator.specs.Growing.{GrowthRule}
use Rattle.plinq_ticket.specs.Shares.{in_ticket_order}
use Rattle.plinq_ticket.specs.Weights.{total}
use Rattle.plinq_partition.specs.Partitions.{Holding, IsTaken, IsStopped}

module _ {T : Type 0} where
  -- what a partition did: it took a chunk, or closed the source
  abbrev pub Does : GrowthRule → Holding T → Option (Chunk T) → Holding T → Type 0
  Does growth a (Some chunk) b = IsTaken growth a b chunk
  Does growth a None b = IsStopped a b

  -- a new partition of that source did these one after another
  abbrev pub HasDone : GrowthRule → Trace T → Holding T → List (Option (Chunk T)) → Type 0
  HasDone growth t p acts = FoldsTo (Does growth) (record { origin = t; share = []; requests = 0 }) acts p

  -- the records of several partitions
  abbrev pub records_of : List (Holding T) → List Record
  records_of [] = []
  records_of (p ∷ ps) = p.share ++ records_of ps

  -- the chunk is that of the record; a close has none, and hands out nothing
  abbrev pub IsOf : Trace T → Record → Option (Chunk T) → Type 0
  IsOf t r (Some chunk) = IsChunkOf t r chunk
  IsOf t r None = (r.asked ≡ Close) × (r.count ≡ 0)

  -- the elements of a chunk under their keys
  abbrev pub elements_of : Option (Chunk T) → List (Keyed T)
  elements_of (Some chunk) = keyed_from chunk.first chunk.items.items
  elements_of None = []

  -- the elements of all chunks, one chunk after another
  abbrev pub all_elements : List (Option (Chunk T)) → List (Keyed T)
  all_elements [] = []
  all_elements (act ∷ acts) = elements_of act ++ all_elements acts

  -- what all partitions did
  abbrev pub all_acts : List (List (Option (Chunk T))) → List (Option (Chunk T))
  all_acts [] = []
  all_acts (acts ∷ others) = acts ++ all_acts others

  -- What was done, in the order of the records' tickets: each thing as often as partitions did it, each with its record,
  -- and the elements of all chunks are the first of the source, under the keys 0, 1, 2 and so on
  pub record AreOneHistory (t : Trace T) (h : List Record) (acts : List (List (Option (Chunk T)))) : Type 0 where
    pub in_order : List (Option (Chunk T))
    pub each_once : (weight : Option (Chunk T) → ℕ) → total weight in_order ≡ total weight (all_acts acts)
    pub are : AllZip (IsOf t) h in_order
    pub elements : all_elements in_order ≡ keyed_from 0 (take (given_by t h) t.items)

-- what partitions did that have a legal history together, are the replies of that history
abbrev pub TakesAreOneHistory : Type 0 → Type 0
TakesAreOneHistory T = (growth : GrowthRule) (t : Trace T) (ps : List (Holding T)) (acts : List (List (Option (Chunk T))))
    → AllZip (HasDone growth t) ps acts → IsLegalHistory t (in_ticket_order (records_of ps)) → AreOneHistory t (in_ticket_order (records_of ps)) acts

-- of two things that were done none is left out
one_is_missing : (t : Trace ℕ) (h : List Record) (done : AreOneHistory t h ((None ∷ []) ∷ (None ∷ []) ∷ [])) → done.in_order ≡ None ∷ [] → ⊥
one_is_missing t h done one =
    let two : total (λ _. 1) done.in_order ≡ 2 = done.each_once (λ _. 1) in
    omega (arith, two, ap (total (λ _. 1)) one)
