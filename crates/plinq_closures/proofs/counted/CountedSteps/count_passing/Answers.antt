-- A block at this step, or at those before it.
use Rattle.std.proofs.Common.{◌-◌, arith}
use Rattle.plinq_lambda.specs.Block.{passing_block}
use Rattle.plinq_closures.specs.Steps.{does_nothing}
use Rattle.plinq_closures.proofs.Within.{at_last, at_before}
use Rattle.plinq_closures.proofs.counted.CountedSteps.count_passing.Goals as goal

pub returns-then-at-eq0-clause-passing : goal.returns-then-at-eq0-clause-passing
returns-then-at-eq0-clause-passing g c =
    at_last passing_block does_nothing (g.S.Steps.tests c.args.self.now.before) _ _
    c.args.at c.if-at-eq0.true c.nothing_done.ensures.passing

pub returns-else-at-eq0-clause-passing : goal.returns-else-at-eq0-clause-passing
returns-else-at-eq0-clause-passing g c =
    at_before passing_block does_nothing (g.S.Steps.tests c.args.self.now.before) _ _
    c.args.at (c.args.at - 1) (omega (arith, c.if-at-eq0.false)) c.count_passing.ensures.passing
