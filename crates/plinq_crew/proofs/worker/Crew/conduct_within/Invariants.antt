use Rattle.plinq_crew.proofs.Coordinating.{IsUnderWay}
use Rattle.plinq_crew.proofs.worker.Crew.conduct_within.Given as goal

abbrev pub invariant-loop : goal.invariant-loop
invariant-loop g l = record {
  can : (goal.iterator-loop g).can_next l.iterator';
  finite : (goal.iterator-loop g).is_finite l.iterator';
  under_way : IsUnderWay g.L.Lambda.meaning g.P.Task.makes g.J.RunSpec.is_result g.J.RunSpec.stops_at g.X.Consumer.is_ready g.X.Consumer.accepts
      l.self l.fn.context.partition l.fn.consumer l.coordinator l.team l.closing l.consumer;
}
