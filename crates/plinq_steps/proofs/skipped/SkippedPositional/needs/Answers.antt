use Rattle.std.proofs.Common.{rules, ◌≡◌, ◌+◌}
use Rattle.plinq_steps.specs.Enough.{lifted, skipped_brings}
use Rattle.plinq_steps.proofs.skipped.SkippedPositional.needs.Goals as goal

pub returns-in-Some : goal.returns-in-Some
returns-in-Some g c =
    let sum : c.in-Some.all ≡ c.args.self.now.left + c.args.count = search rules in
    lifted c.needs.result (λ n. skipped_brings c.args.self.now.left c.args.count c.in-Some.all n sum) c.needs.ensures
