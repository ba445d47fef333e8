use Rattle.std.proofs.Common.{rules, ◌≡◌, false, true, is_some}
use Rattle.std.specs.List.{fold}
use Rattle.plinq_groups.specs.Mapping.{mapped_items}
use Rattle.plinq_groups.specs.FoldedEach.{stuck-block, folded-block}
use Rattle.plinq_groups.proofs.fold_each.FoldEachGrowingAggregator.update_block.Goals as goal

pub returns-then-is_some : goal.returns-then-is_some
returns-then-is_some g c =
    let some : is_some c.args.acc.1 ≡ true = search rules in
    stuck-block (g.M.MakeOf.makes c.args.self.now.make) (g.A.GrowingAggregator.folding c.args.self.now.each) c.args.acc.0 c.args.acc.1 c.args.block.now some

pub returns : goal.returns
returns g c =
    let makes = g.M.MakeOf.makes c.args.self.now.make in
    let f = g.A.GrowingAggregator.folding c.args.self.now.each in
    let none : is_some c.args.acc.1 ≡ false = search rules in
    let made : c.as_slice.result.now ≡ (mapped_items makes c.args.block.now).0 = search rules in
    let fault : c.in_ok-fault.fault ≡ (mapped_items makes c.args.block.now).1 = search rules in
    let folded : c.in_ok-after.after ≡ fold f.update c.args.acc.0 c.as_slice.result.now = search rules in
    folded-block makes f c.args.acc.0 c.args.acc.1 c.args.block.now c.as_slice.result.now c.in_ok-fault.fault c.in_ok-after.after none made fault folded
