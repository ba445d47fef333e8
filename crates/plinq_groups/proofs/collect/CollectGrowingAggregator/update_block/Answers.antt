use Rattle.std.proofs.Common.{rules, ◌≡◌, ◌++◌, sym, ◌∙◌}
use Rattle.plinq_groups.specs.Collecting.{collects-from}
use Rattle.plinq_groups.proofs.collect.CollectGrowingAggregator.update_block.Goals as goal

pub returns : goal.returns
returns g c =
    let grown : c.extend_from_slice.new.self.items ≡ c.args.acc ++ c.args.block.now = search rules in
    grown ∙ sym (collects-from c.args.acc c.args.block.now)
