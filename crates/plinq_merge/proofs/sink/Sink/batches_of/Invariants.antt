use Rattle.std.proofs.Common.{[], length, Some}
use Rattle.plinq_ops.specs.Batches.{full_batches}
use Rattle.plinq_merge.specs.inner.Sent.{IsSentUpTo}
use Rattle.plinq_merge.proofs.sink.Sink.batches_of.Given as goal

abbrev pub invariant-loop-rest : goal.invariant-loop-rest
invariant-loop-rest g l =
    IsSentUpTo g.Self.Sink.accepts l.fn.self (full_batches (Some l.size) [] l.items) (full_batches (Some l.size) [] l.rest) l.self

abbrev pub decreases-loop-rest : goal.decreases-loop-rest
decreases-loop-rest g l = length l.rest
