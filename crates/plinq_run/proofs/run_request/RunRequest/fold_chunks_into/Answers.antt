use Rattle.plinq_run.proofs.PartsGiven.{chunks-given}
use Rattle.plinq_run.proofs.run_request.RunRequest.fold_chunks_into.Goals as goal

pub returns : goal.returns
returns g c =
    let few = (g.met.Q.Source.Source g.world.𝓛 g.world.𝓜 g.world.𝓡 (λ s a. a, λ a. a, λ a. a, λ a. a)).few c.args.self.source in
    let lawful = (g.met.A.GrowingAggregator g.world.𝓛 g.world.𝓜 g.world.𝓡 (λ s a. a, λ a. a, λ a. a, λ a. a)).lawful c.args.aggregator.now in
    rw c.answer_ending.ensures
    (chunks-given _ lawful _ g.met.W.TakeInto.lawful _ _ _ few c.requires.may.plan c.requires.alone _ _ _ _ c.conduct_plan.ensures)
