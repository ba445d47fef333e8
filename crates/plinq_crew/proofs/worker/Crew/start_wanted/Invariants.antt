use Rattle.std.proofs.Common.{◌≡◌, length}
use Rattle.plinq_partition.specs.Partitions.{holding_of}
use Rattle.plinq_stream.specs.Passes.{IsPassOf, knowledge_of}
use Rattle.plinq_crew.specs.Equipped.{IsEquipped}
use Rattle.plinq_crew.specs.inner.Teams.{IsTeam}
use Rattle.plinq_crew.specs.Working.{HasNumbersFrom, IsReceiver}
use Rattle.plinq_crew.proofs.worker.Crew.start_wanted.Given as goal

abbrev pub invariant-loop-worker : goal.invariant-loop-worker
invariant-loop-worker g l = record {
  equipped : IsEquipped g.L.Lambda.meaning
      (g.P.Task.makes l.self.task.now) g.J.RunSpec.is_result g.J.RunSpec.stops_at l.self.plan.now l.self.chunked.now l.self.cut.now l.coordinator.partition
      l.team.cut;
  same : holding_of l.coordinator.partition ≡ holding_of l.fn.coordinator.partition;
  stream : IsPassOf l.self.stream.now l.coordinator.stream;
  receiver : IsReceiver (knowledge_of l.coordinator.stream);
  numbers : HasNumbersFrom l.worker (knowledge_of l.coordinator.stream);
  received : (knowledge_of l.coordinator.stream).received ≡ (knowledge_of l.fn.coordinator.stream).received;
  counted : length l.team.handles.items ≡ l.worker;
  team : IsTeam l.self.chunked.now l.self.stream.now l.self.workers l.coordinator.worker_count l.team;
  wanted : l.coordinator.worker_count.wanted ≡ l.goal;
}
