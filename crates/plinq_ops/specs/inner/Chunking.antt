-- What becomes of a chunk that is sent through the worker part.
use Rattle.std.specs.Prelude.{◌≡◌, List, Option}
use Rattle.plinq_ops.specs.declared.chunking.Stop.{Stop}
use Rattle.plinq_ops.specs.Chunk.{ChunkAnswer, IsStop}

-- its answer's items are out, and it is told where they stop
pub record Gives {T : Type 0} (a : ChunkAnswer T) (out : List T) (told : Option Stop) : Type 0 where
  pub items : out ≡ a.trace.items
  pub stop : IsStop a told
