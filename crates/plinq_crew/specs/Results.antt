-- What workers make of chunks, and what they send of it.
use Rattle.std.specs.Prelude.{◌≡◌, ◌≤◌, ℕ, List, length}
use Rattle.std.specs.Option.{IfSome}
use Rattle.plinq_source.specs.Trace.{Trace}
use Rattle.plinq_lambda.specs.Meaning.{Meaning}
use Rattle.plinq_keyed.specs.declared.chunk.Chunk.{Chunk}
use Rattle.plinq_ops.specs.declared.op.Op.{Op}
use Rattle.plinq_ops.specs.declared.order.Order.TheVariants.{ByArrival}
use Rattle.plinq_ops.specs.declared.plan.Plan.{Plan}
use Rattle.plinq_ops.specs.declared.results.ChunkResult.{ChunkResult}
use Rattle.plinq_ops.specs.Chunk.{IsChunkResult}
use Rattle.plinq_ops.specs.Cut.{no_cut}
use Rattle.plinq_ops.specs.Row.{IsOffer}
use Rattle.plinq_ops.specs.Tails.{end_of_result, told_at, EndsAt}

-- The result of a chunk of the source, under a cut of its own: no cut, or by key also a key whose fragment ends the run.
-- What its tail says of the source's end is so.
pub record IsResult {L T : Type 0} (meaning : L → Meaning T) (plan : Plan L) (t : Trace T) (r : ChunkResult T) : Type 0 where
  pub offer : IsOffer meaning plan.worker.now t r
  pub uncut : plan.order ≡ ByArrival → offer.cut ≡ no_cut
  pub tail : IfSome (told_at (end_of_result r) r.tail) (EndsAt t)
  pub within : end_of_result r ≤ length t.items

-- what was made of a result is of the same chunk, and ends as the result does
pub record IsOfSameChunk {T M : Type 0} (r : ChunkResult T) (c : ChunkResult M) : Type 0 where
  pub first : c.first ≡ r.first
  pub count : c.count ≡ r.count
  pub ending : c.ending ≡ r.ending
  pub stop : c.stop ≡ r.stop
  pub tail : c.tail ≡ r.tail

-- what was made of the result of a chunk under a cut
pub record IsMadeOf {L T M : Type 0} (meaning : L → Meaning T) (makes : ChunkResult T → ChunkResult M → Type 0)
    (worker : List (Op L)) (cut : ℕ) (chunk : Chunk T) (c : ChunkResult M) : Type 0 where
  pub result : ChunkResult T
  pub is : IsChunkResult meaning worker cut chunk result
  pub made : makes result c
  pub same : IsOfSameChunk result c

-- what was made of a result of the source
pub record IsPart {L T M : Type 0} (meaning : L → Meaning T) (makes : ChunkResult T → ChunkResult M → Type 0)
    (plan : Plan L) (t : Trace T) (c : ChunkResult M) : Type 0 where
  pub result : ChunkResult T
  pub is : IsResult meaning plan t result
  pub made : makes result c
  pub same : IsOfSameChunk result c
