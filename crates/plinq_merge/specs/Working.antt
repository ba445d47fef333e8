-- A merger at work: what it is made for, and which offers it stands for.
use Rattle.std.specs.Prelude.{◌≡◌, List, [], Bool, false, None}
use Rattle.plinq_source.specs.Trace.{open_trace}
use Rattle.plinq_lambda.specs.Meaning.{Meaning}
use Rattle.plinq_ops.specs.declared.results.ChunkResult.{ChunkResult}
use Rattle.plinq_ops.specs.Stage.{seq}
use Rattle.plinq_ops.specs.Operator.{stages_of}
use Rattle.plinq_ops.specs.Batches.{held_back}
use Rattle.plinq_ops.specs.Pipeline.{stages}
use Rattle.plinq_merge.specs.declared.deliver.Deliver.{Deliver}
use Rattle.plinq_merge.specs.declared.joining.Joining.{Joining}
use Rattle.plinq_merge.specs.Buffer.{held_of, size_of}
use Rattle.plinq_merge.specs.Shown.{Merge, merged_trace}
use Rattle.plinq_merge.specs.Merging.{GoesOn}
use Rattle.plinq_merge.specs.Joining.{Waits}

-- the row of keys, and what its items go through
abbrev pub Work : Type 0 → Type 0 → Type 0
Work L T = Joining (Deliver L T) T

module _ {L T : Type 0} (meaning : L → Meaning T) (decided : Bool) where
  -- what it is made for
  abbrev pub merge_of : Work L T → Merge T
  merge_of w = record { after = stages_of meaning w.taker.pipeline.ops; order = w.order; decided = decided; size = size_of w.taker.buffer }

  -- it stands for these offers, and the answer is open: `out` is the answer so far
  pub record Rests (w : Work L T) (offers : List (ChunkResult T)) : Type 0 where
    pub undecided : decided ≡ false
    pub waits : Waits w.order w.row offers
    pub out : List T
    pub on : GoesOn (stages_of meaning w.taker.pipeline.ops) (merged_trace w.order offers) out None (stages meaning w.taker.pipeline)
    pub nothing : seq (stages meaning w.taker.pipeline) (open_trace []) ≡ open_trace []
    pub held : held_of w.taker.buffer ≡ held_back (size_of w.taker.buffer) [] out
