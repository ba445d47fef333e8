use Rattle.std.proofs.Common.{◌≡◌}
use Rattle.plinq_keyed.specs.Keys.{is_among}
use Rattle.plinq_ops.specs.Cut.{stop_keys}
use Rattle.plinq_crew.specs.Results.{IsPart}
use Rattle.plinq_run.proofs.running.run.Given as goal

abbrev pub ghosts-conduct_plan : goal.ghosts-conduct_plan
ghosts-conduct_plan g a = record {
  is_result = IsPart g.L.Lambda.meaning (λ r c. c ≡ r) a.self.plan.now (g.S.Source.whole a.self.source);
  stops_at = is_among (stop_keys g.L.Lambda.meaning a.self.plan.now.worker.now 0 (g.S.Source.whole a.self.source).items);
}
