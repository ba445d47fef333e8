-- What comes at a poll, and what was made of all that came.
use Rattle.std.specs.Prelude.{◌≡◌, ⊤, List, [], ◌++◌, Bool, false}
use Rattle.std.specs.List.{FoldsTo}
use Rattle.plinq_ops.specs.declared.results.ChunkResult.{ChunkResult}
use Rattle.plinq_stream.specs.declared.pass_knowledge.PassKnowledge.{PassKnowledge}
use Rattle.plinq_stream.specs.declared.sent.Sent.{Sent}
use Rattle.plinq_stream.specs.Knowing.{with_received}
use Rattle.plinq_crew.specs.declared.poll.Poll.{Poll}
use Rattle.plinq_crew.specs.declared.poll.Poll.TheVariants.{Came, Nothing, Over}

module _ {M : Type 0} where
  -- this holds of what came
  abbrev pub IfCame : Poll M → (ChunkResult M → Type 0) → Type 0
  IfCame (Came made) P = P made
  IfCame (Nothing sleep) P = ⊤
  IfCame Over P = ⊤

  -- what came was received, and nothing else
  abbrev pub HasCome : PassKnowledge (ChunkResult M) → Poll M → PassKnowledge (ChunkResult M) → Type 0
  HasCome a (Came made) b = (s : Sent (ChunkResult M)) × (s.item ≡ made) × (b ≡ with_received a s)
  HasCome a (Nothing sleep) b = b ≡ a
  HasCome a Over b = b ≡ a

-- Something is made by steps of all that was received since some moment, one step for each in the order in which it came,
-- but for the last ones, for which there is none. All of them were taken in where it was not to be closed.
pub record HasAccepted {X Y : Type 0} (Step : Y → X → Y → Type 0) (before : List X) (y : Y) (received : List X) (wants_close : Bool) (y' : Y) : Type 0 where
  pub taken : List X
  pub left : List X
  pub came : received ≡ before ++ (taken ++ left)
  pub steps : FoldsTo Step y taken y'
  pub all : wants_close ≡ false → left ≡ []
