use Rattle.std.proofs.Common.{◌≤◌, ◌+◌, All, length, vec_len, vec_capacity}
use Rattle.plinq_stream.specs.Passes.{knowledge_of}
use Rattle.plinq_crew.specs.inner.Handles.{IsHandleOf, AreNumbered}
use Rattle.plinq_crew.specs.inner.Joining.{HasJoined}
use Rattle.plinq_crew.proofs.worker.Crew.join_all.Given as goal

abbrev pub invariant-loop-handle : goal.invariant-loop-handle
invariant-loop-handle g l = record {
  handles : All (IsHandleOf l.self.chunked.now l.self.stream.now) l.handles.items;
  numbered : AreNumbered 0 l.handles.items;
  some : 1 ≤ length l.partitions.items;
  room : length l.handles.items + length l.partitions.items ≤ vec_capacity l.partitions;
  above : All (λ s. length l.handles.items ≤ s.number) (knowledge_of l.pass).sent;
  joined : HasJoined l.self l.fn.first l.fn.pass l.fn.handles.items l.fn.worker_faults (length l.handles.items) l.pass l.worker_faults l.partitions.items;
}

abbrev pub decreases-loop-handle : goal.decreases-loop-handle
decreases-loop-handle g l = vec_len l.handles
