-- What a clause says of a stream and its passes.
use Rattle.std.specs.Prelude.{◌≡◌, []}
use Rattle.crossbeam_queue.specs.Passes.{view, IsPassOf as IsQueuePassOf}
use Rattle.plinq_stream.specs.declared.pass_knowledge.PassKnowledge.{PassKnowledge}
use Rattle.plinq_stream.specs.declared.stream.Stream.{Stream}
use Rattle.plinq_stream.specs.declared.stream_pass.StreamPass.{StreamPass}

-- what the pass knows
abbrev pub knowledge_of : {T : Type 0} → StreamPass T → PassKnowledge T
knowledge_of p = view p.pass

-- a pass of this stream
abbrev pub IsPassOf : {T C : Type 0} → Stream T C → StreamPass T → Type 0
IsPassOf stream p = IsQueuePassOf stream.queue p.pass

-- the second is a pass of the first one's stream
abbrev pub IsBeside : {T : Type 0} → StreamPass T → StreamPass T → Type 0
IsBeside p q = (q.pass.table_id ≡ p.pass.table_id) × (q.pass.me.1 ≡ [])
