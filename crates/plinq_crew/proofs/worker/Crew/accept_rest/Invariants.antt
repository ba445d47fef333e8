use Rattle.std.proofs.Common.{◌≡◌, true}
use Rattle.plinq_stream.specs.Passes.{IsPassOf, knowledge_of}
use Rattle.plinq_crew.specs.inner.Closing.{wants_close}
use Rattle.plinq_crew.specs.inner.Coordinating.{AcceptsOn}
use Rattle.plinq_crew.proofs.worker.Crew.accept_rest.Given as goal

abbrev pub invariant-loop : goal.invariant-loop
invariant-loop g l = record {
  can : (goal.iterator-loop g).can_next l.iterator';
  finite : (goal.iterator-loop g).is_finite l.iterator';
  stream : IsPassOf l.self.stream.now l.pass;
  receives : (knowledge_of l.pass).receives ≡ true;
  sent : (knowledge_of l.pass).sent ≡ (knowledge_of l.fn.pass).sent;
  numbers : (knowledge_of l.pass).numbers ≡ (knowledge_of l.fn.pass).numbers;
  ready : g.X.Consumer.is_ready l.consumer;
  accepted : AcceptsOn g.X.Consumer.accepts g.J.RunSpec.is_result (knowledge_of l.fn.pass).received (wants_close l.closing) l.fn.consumer
      (knowledge_of l.pass).received (wants_close l.closing) l.consumer;
}
