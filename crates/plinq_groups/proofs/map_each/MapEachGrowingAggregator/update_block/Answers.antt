use Rattle.std.proofs.Common.{rules, ◌≡◌, ◌++◌, false, true, is_some}
use Rattle.plinq_groups.specs.Mapping.{mapped_items, stopped-block, mapped-block}
use Rattle.plinq_groups.proofs.map_each.MapEachGrowingAggregator.update_block.Goals as goal

pub returns-then-is_some : goal.returns-then-is_some
returns-then-is_some g c =
    let some : is_some c.args.acc.1 ≡ true = search rules in
    stopped-block (g.M.MakeOf.makes c.args.self.now.make) c.args.acc.0 c.args.acc.1 c.args.block.now some

pub returns : goal.returns
returns g c =
    let makes = g.M.MakeOf.makes c.args.self.now.make in
    let none : is_some c.args.acc.1 ≡ false = search rules in
    let made : c.make_block.new.made.items ≡ c.args.acc.0 ++ (mapped_items makes c.args.block.now).0 = search rules in
    let fault : c.in_ok-fault.fault ≡ (mapped_items makes c.args.block.now).1 = search rules in
    mapped-block makes c.args.acc.0 c.args.acc.1 c.args.block.now c.make_block.new.made.items c.in_ok-fault.fault none made fault
