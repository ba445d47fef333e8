use Rattle.plinq_steps.specs.Beside.{paired_enough}
use Rattle.plinq_steps.specs.Enough.{lifted, follows_enough}
use Rattle.plinq_steps.proofs.zipped.ZippedPositional.enough.Goals as goal

pub returns-in-Some : goal.returns-in-Some
returns-in-Some g c = follows_enough c.in-Some.n c.in-Some.ensures

pub returns-in-None : goal.returns-in-None
returns-in-None g c =
    let us = c.args.self.now.with.now in
    let means = g.P.Positional.means c.args.self.now.before in
    lifted c.needs.result (λ n. paired_enough means us n) c.needs.ensures
