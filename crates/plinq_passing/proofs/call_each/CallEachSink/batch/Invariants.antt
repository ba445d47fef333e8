-- It was called with the items before those that are left, and the same is lent.
use Rattle.std.specs.Prelude.{◌≡◌}
use Rattle.std.proofs.Common.{length}
use Rattle.plinq_merge.specs.inner.Sent.{IsSentUpTo}
use Rattle.plinq_passing.proofs.call_each.CallEachSink.batch.Given as goal

abbrev pub invariant-loop-item : goal.invariant-loop-item
invariant-loop-item g l =
    (IsSentUpTo g.V.Visits.takes l.fn.self.by.now l.batch l.rest l.self.by.now) × (l.self.by.ghost_name ≡ l.fn.self.by.ghost_name)

abbrev pub decreases-loop-item : goal.decreases-loop-item
decreases-loop-item g l = length l.rest
