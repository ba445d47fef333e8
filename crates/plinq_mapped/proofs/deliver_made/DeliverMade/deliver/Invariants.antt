use Rattle.std.proofs.Common.{◌≡◌}
use Rattle.plinq_source.specs.Trace.{open_trace}
use Rattle.plinq_mapped.specs.Making.{DeliversOn}
use Rattle.plinq_mapped.proofs.deliver_made.DeliverMade.deliver.Given as goal

abbrev pub invariant-loop-one : goal.invariant-loop-one
invariant-loop-one g l =
    record {
      size : l.self.size ≡ l.fn.self.size;
      gives : DeliversOn g.K.Sink.accepts g.K.Sink.refuses l.fn.self.size l.fn.self.held.items l.fn.out (open_trace l.yielded) l.self.held.items l.out;
    }
