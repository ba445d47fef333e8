-- What the caller's thread has joined so far of the parts that workers send.
use Rattle.std.specs.Prelude.{◌≡◌, Bool, List, [], Option, Some, None, Result, Ok, Err, All}
use Rattle.plinq_source.specs.declared.ending.Ending.{Ending}
use Rattle.plinq_source.specs.declared.source.Source.{Ghosts as SourceGhosts}
use Rattle.plinq_source.specs.Trace.{Trace}
use Rattle.plinq_ops.specs.declared.order.Order.{Order}
use Rattle.plinq_ops.specs.declared.results.ChunkResult.{ChunkResult}
use Rattle.plinq_merge.specs.declared.delivery_fault.DeliveryFault.{DeliveryFault}
use Rattle.plinq_merge.specs.declared.joined.Joined.{Joined}
use Rattle.plinq_merge.specs.declared.joiner.Joiner.{Joiner}
use Rattle.plinq_merge.specs.declared.merge_fault.MergeFault.{MergeFault}
use Rattle.plinq_merge.specs.declared.more.More.{More}
use Rattle.plinq_merge.specs.Joiners.{taker_of, order_of, ending_of, JoinsOffer, HasJoined}
use Rattle.plinq_merge.specs.Mergers.{delivery_fault_of}
use Rattle.plinq_merge.specs.Shown.{merged_trace}
use Rattle.plinq_merge.specs.Whole.{AreApart}
use Rattle.plinq_partition.specs.Partitions.{all_shares}
use Rattle.plinq_stream.specs.declared.sent.Sent.{Sent}
use Rattle.plinq_crew.specs.Conducting.{AcceptsEach}
use Rattle.plinq_crew.specs.Polls.{HasAccepted}
use Rattle.plinq_run.specs.declared.planning.Ended.{Ended}
use Rattle.plinq_run.specs.declared.accepting.Merging.{Merging}
use Rattle.plinq_run.specs.declared.accepting.MergingInto.{MergingInto}
use Rattle.plinq_run.specs.declared.run_fault.RunFault.{RunFault}
use Rattle.plinq_run.specs.inner.Offered.{IsOffered}
use Rattle.plinq_run.specs.Parting.{Breaks}
use Rattle.plinq_run.specs.Runs.{cause_of}

-- the fault with which an offer was answered, if it was
abbrev pub offer_fault : Result More MergeFault → Option MergeFault
offer_fault (Ok more) = None
offer_fault (Err fault) = Some fault

-- the same joiner is lent, and the same place where its taker puts things
pub record AreSame {W T O : Type 0} (m m' : MergingInto W T O) : Type 0 where
  pub merging : m'.merging.ghost_name ≡ m.merging.ghost_name
  pub out : m'.out.ghost_name ≡ m.out.ghost_name

module _ {W O T : Type 0} (made : W → O → Trace T → Result (Option Ending) DeliveryFault → W → O → Type 0) where
  -- the part was offered to the joiner, and how that was answered is known
  pub record WasOffered (m : Merging W T) (y : O) (part : ChunkResult T) (m' : Merging W T) (y' : O) : Type 0 where
    pub answer : Result More MergeFault
    pub takes : JoinsOffer made m.joiner part y answer m'.joiner y'
    pub order : order_of m'.joiner ≡ order_of m.joiner
    pub kept : m'.fault ≡ offer_fault answer

  abbrev pub AcceptsAfter : Option MergeFault → Merging W T → O → ChunkResult T → Merging W T → O → Type 0
  AcceptsAfter None m y part m' y' = WasOffered m y part m' y'
  AcceptsAfter (Some fault) m y part m' y' = (m' ≡ m) × (y' ≡ y)

  -- a part is offered, unless there was a fault before: then nothing changes
  abbrev pub Accepts : Merging W T → O → ChunkResult T → Merging W T → O → Type 0
  Accepts m y part m' y' = AcceptsAfter m.fault m y part m' y'

  -- the same, with where the taker puts things
  pub record AcceptsInto (m : MergingInto W T O) (part : ChunkResult T) (m' : MergingInto W T O) : Type 0 where
    pub same : AreSame m m'
    pub accepts : Accepts m.merging.now m.out.now part m'.merging.now m'.out.now

  module _ (IsPart : ChunkResult T → Type 0) (order : Order) (a : W) (x : O) where
    abbrev pub Stands : Option MergeFault → Joiner W T → O → List (ChunkResult T) → Type 0
    Stands None j y offers = (order_of j ≡ order) × HasJoined made a x j y offers
    Stands (Some fault) j y offers = (last : W) × made a x (merged_trace order offers) (Err (delivery_fault_of fault)) last y

    -- such parts were offered, of which no key is in two: they are joined, or the taker broke off what they merge to
    pub record HasMerged (m : Merging W T) (y : O) : Type 0 where
      pub offers : List (ChunkResult T)
      pub are : All IsPart offers
      pub apart : AreApart offers
      pub stands : Stands m.fault m.joiner y offers

    -- the taker has taken all that such parts of the partitions' records merge to, and the answer has ended so
    pub record HasEnded {S U : Type 0} {source : SourceGhosts S U} (ended : Ended S W U source) (y : O) : Type 0 where
      pub offers : List (ChunkResult T)
      pub are : All (IsOffered IsPart (all_shares ended.partitions.items)) offers
      pub apart : AreApart offers
      pub taken : made a x (merged_trace order offers) (Ok (Some ended.joined.ending)) ended.joined.taker y

    -- there is a fault, for which the taker may have broken it off
    pub record HasBrokenOff (fault : RunFault) (y : O) : Type 0 where
      pub offers : List (ChunkResult T)
      pub are : All IsPart offers
      pub apart : AreApart offers
      pub last : W
      pub how : Result (Option Ending) DeliveryFault
      pub taken : made a x (merged_trace order offers) how last y
      pub breaks : Breaks how (cause_of fault)

    -- All of these were accepted one after another, first to last, but for some of the last ones, by a joiner to which
    -- nothing was offered before. No offer was answered with a fault, and the joiner has finished so.
    pub record WereAccepted (received : List (Sent (ChunkResult T))) (joined : Joined W) (y : O) : Type 0 where
      pub first : MergingInto W T O
      pub new : Stands None first.merging.now.joiner x []
      pub sound : first.merging.now.fault ≡ None
      pub last : MergingInto W T O
      pub still : last.merging.now.fault ≡ None
      pub ending : ending_of last.merging.now.joiner ≡ Ok joined.ending
      pub taker : joined.taker ≡ taker_of last.merging.now.joiner
      pub out : (first.out.now ≡ x) × (last.out.now ≡ y)
      pub wants_close : Bool
      pub taken : HasAccepted (AcceptsEach AcceptsInto IsPart) [] first received wants_close last
