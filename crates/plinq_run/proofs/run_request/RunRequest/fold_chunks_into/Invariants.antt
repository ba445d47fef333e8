use Rattle.plinq_keyed.specs.Keys.{is_among}
use Rattle.plinq_ops.specs.Cut.{stop_keys}
use Rattle.plinq_run.specs.inner.Folds.{IsFoldOf}
use Rattle.plinq_crew.specs.Results.{IsPart}
use Rattle.plinq_run.proofs.run_request.RunRequest.fold_chunks_into.Given as goal

abbrev pub ghosts-conduct_plan : goal.ghosts-conduct_plan
ghosts-conduct_plan g a = record {
  is_result = IsPart g.Q.Lambda.Lambda.meaning (IsFoldOf (g.A.GrowingAggregator.folding a.task.now.aggregator.now)) a.self.plan.now
      (g.Q.Source.Source.whole a.self.source);
  stops_at = is_among (stop_keys g.Q.Lambda.Lambda.meaning a.self.plan.now.worker.now 0 (g.Q.Source.Source.whole a.self.source).items);
}
