-- The first item faults.
use Rattle.std.proofs.Common.{sym, ◌∙◌}
use Rattle.plinq_closures.proofs.Within.{nothing_mapped, nothing_filtered, nothing_passes}
use Rattle.plinq_closures.proofs.block_closures.nothing_done.Goals as goal

pub returns-else-is_empty-clause-mapped : goal.returns-else-is_empty-clause-mapped
returns-else-is_empty-clause-mapped g c = nothing_mapped c.args.block.now (sym c.is_empty.ensures ∙ c.if-is_empty.false)

pub returns-else-is_empty-clause-filtered : goal.returns-else-is_empty-clause-filtered
returns-else-is_empty-clause-filtered g c = nothing_filtered c.args.block.now (sym c.is_empty.ensures ∙ c.if-is_empty.false)

pub returns-else-is_empty-clause-passing : goal.returns-else-is_empty-clause-passing
returns-else-is_empty-clause-passing g c = nothing_passes c.args.block.now (sym c.is_empty.ensures ∙ c.if-is_empty.false)
