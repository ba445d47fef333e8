use Rattle.plinq_crew.specs.inner.Coordinating.{IsCoordinator, AcceptsMore}
use Rattle.plinq_crew.proofs.worker.Crew.accept_some.Given as goal

abbrev pub invariant-loop : goal.invariant-loop
invariant-loop g l = record {
  can : (goal.iterator-loop g).can_next l.iterator';
  finite : (goal.iterator-loop g).is_finite l.iterator';
  coordinator : IsCoordinator l.self.chunked.now l.self.stream.now l.coordinator;
  more : AcceptsMore g.X.Consumer.is_ready g.X.Consumer.accepts g.J.RunSpec.is_result
      l.fn.coordinator l.fn.closing l.fn.consumer l.coordinator l.closing l.consumer;
}
