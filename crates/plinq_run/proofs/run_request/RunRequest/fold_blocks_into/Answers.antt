use Rattle.std.proofs.Common.{refl}
use Rattle.plinq_ops.proofs.ByKey.{stages-begun}
use Rattle.plinq_run.specs.declared.{fold_blocks.FoldBlocks.FoldBlocks, run_fault.RunFault.TheVariants.Memory}
use Rattle.plinq_run.proofs.PartsGiven.{none-given, begun-folds, blocks-given}
use Rattle.plinq_run.proofs.run_request.RunRequest.fold_blocks_into.Goals as goal

pub returns-in_default : goal.returns-in_default
returns-in_default g c =
    let few = (g.met.Q.Source.Source g.world.𝓛 g.world.𝓜 g.world.𝓡 (λ s a. a, λ a. a, λ a. a, λ a. a)).few c.args.self.source in
    let lawful = (g.met.A.GrowingAggregator g.world.𝓛 g.world.𝓜 g.world.𝓡 (λ s a. a, λ a. a, λ a. a, λ a. a)).lawful c.args.aggregator.now in
    none-given _ lawful _ g.met.W.TakeInto.lawful _ _ _ few c.requires.may.plan _ _ Memory refl

pub conduct_plan-requires-clause-takes : goal.conduct_plan-requires-clause-takes
conduct_plan-requires-clause-takes g c κs within =
    let first : FoldBlocks _ _ _ = record { alloc = c.args.self.alloc; pipeline = c.in-Ok.pipeline; aggregator = c.args.aggregator; inner = c.args.taker } in
    begun-folds g.Q.Lambda.Lambda.meaning g.W.Taker.can_take first c.args.self.plan.now.after.now c.in-Ok.ensures c.requires.may.plan.after c.requires.takes

pub returns : goal.returns
returns g c =
    let few = (g.met.Q.Source.Source g.world.𝓛 g.world.𝓜 g.world.𝓡 (λ s a. a, λ a. a, λ a. a, λ a. a)).few c.args.self.source in
    let lawful = (g.met.A.GrowingAggregator g.world.𝓛 g.world.𝓜 g.world.𝓡 (λ s a. a, λ a. a, λ a. a, λ a. a)).lawful c.args.aggregator.now in
    let first : FoldBlocks _ _ _ = record { alloc = c.args.self.alloc; pipeline = c.in-Ok.pipeline; aggregator = c.args.aggregator; inner = c.args.taker } in
    let begun = stages-begun g.Q.Lambda.Lambda.meaning c.args.self.plan.now.after.now c.in-Ok.pipeline c.in-Ok.ensures in
    rw c.answer_ending.ensures
    (blocks-given _ lawful _ g.met.W.TakeInto.lawful _ _ _ few c.requires.may.plan g.A.GrowingAggregator.folding first refl begun _ _ _ c.conduct_plan.ensures)
