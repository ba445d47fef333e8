-- A block at this step, or at those before it.
use Rattle.std.proofs.Common.{◌-◌, arith}
use Rattle.plinq_lambda.specs.Block.{filtered_block}
use Rattle.plinq_closures.specs.Steps.{does_nothing}
use Rattle.plinq_closures.proofs.Within.{at_last, at_before}
use Rattle.plinq_closures.proofs.counted.CountedSteps.filter_block.Goals as goal

pub returns-then-at-eq0-clause-filtered : goal.returns-then-at-eq0-clause-filtered
returns-then-at-eq0-clause-filtered g c =
    at_last filtered_block does_nothing (g.S.Steps.tests c.args.self.now.before) _ _
    c.args.at c.if-at-eq0.true c.nothing_done.ensures.filtered

pub returns-else-at-eq0-clause-filtered : goal.returns-else-at-eq0-clause-filtered
returns-else-at-eq0-clause-filtered g c =
    at_before filtered_block does_nothing (g.S.Steps.tests c.args.self.now.before) _ _
    c.args.at (c.args.at - 1) (omega (arith, c.if-at-eq0.false)) c.filter_block.ensures.filtered
