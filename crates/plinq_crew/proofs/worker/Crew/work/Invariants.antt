use Rattle.std.proofs.Common.{◌≡◌, All}
use Rattle.plinq_cut.specs.Passes.{IsPassOf as IsCutPassOf}
use Rattle.plinq_partition.specs.Partitions.{IsPartitionOf, holding_of}
use Rattle.plinq_stream.specs.Passes.{IsPassOf, knowledge_of}
use Rattle.plinq_crew.specs.Results.{IsPart}
use Rattle.plinq_crew.specs.Working.{IsAtWork}
use Rattle.plinq_crew.proofs.worker.Crew.work.Given as goal

abbrev pub invariant-loop : goal.invariant-loop
invariant-loop g l = record {
  can : (goal.iterator-loop g).can_next l.iterator';
  finite : (goal.iterator-loop g).is_finite l.iterator';
  of : IsPartitionOf l.self.chunked.now l.partition;
  origin : (holding_of l.partition).origin ≡ (holding_of l.fn.context.partition).origin;
  cut : IsCutPassOf l.self.cut.now l.cut;
  stream : IsPassOf l.self.stream.now l.stream;
  work : IsAtWork l.worker (holding_of l.partition).share (knowledge_of l.stream);
  results : All (λ s. IsPart g.L.Lambda.meaning (g.P.Task.makes l.self.task.now) l.self.plan.now (holding_of l.fn.context.partition).origin s.item)
      (knowledge_of l.stream).sent;
}
