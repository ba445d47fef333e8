use Rattle.std.proofs.Common.{◌≡◌, None}
use Rattle.plinq_mapped.specs.Making.{parts_joined, DeliversOn}
use Rattle.plinq_mapped.proofs.deliver_made.DeliverMadeTakeInto.take.Given as goal

abbrev pub invariant-loop-part : goal.invariant-loop-part
invariant-loop-part g l =
    record {
      size : l.self.size ≡ l.fn.self.size;
      gives : DeliversOn g.K.Sink.accepts g.K.Sink.refuses l.fn.self.size l.fn.self.held.items l.fn.out (parts_joined l.yielded None) l.self.held.items l.out;
    }
