-- A block at this step, or at those before it.
use Rattle.std.proofs.Common.{◌-◌, arith}
use Rattle.plinq_lambda.specs.Block.{mapped_block}
use Rattle.plinq_closures.specs.Steps.{does_nothing}
use Rattle.plinq_closures.proofs.Within.{at_last, at_before}
use Rattle.plinq_closures.proofs.tested.TestedSteps.map_block.Goals as goal

pub returns-then-at-eq0-clause-mapped : goal.returns-then-at-eq0-clause-mapped
returns-then-at-eq0-clause-mapped g c =
    at_last mapped_block does_nothing (g.S.Steps.maps c.args.self.now.before) _ _
    c.args.at c.if-at-eq0.true c.nothing_done.ensures.mapped

pub returns-else-at-eq0-clause-mapped : goal.returns-else-at-eq0-clause-mapped
returns-else-at-eq0-clause-mapped g c =
    at_before mapped_block does_nothing (g.S.Steps.maps c.args.self.now.before) _ _
    c.args.at (c.args.at - 1) (omega (arith, c.if-at-eq0.false)) c.map_block.ensures.mapped
