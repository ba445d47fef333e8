use Rattle.std.proofs.Common.{◌≡◌, ◌%◌, ◌^◌, ◌∙◌, sym, ap, rules}
use Rattle.std.specs.List.{fold}
use Rattle.plinq_aggregate.specs.Numbers.{counting}
use Rattle.plinq_aggregate.specs.Lawful.{count-from}
use Rattle.plinq_aggregate.proofs.count.CountAggregator.update_block.Goals as goal

-- src/count.rt:27:5
pub returns : goal.returns
returns c =
    let small : c.args.acc % 2 ^ 64 ≡ c.args.acc = search rules in
    sym (count-from c.args.acc c.args.block.now) ∙ ap (λ n. fold counting.update n c.args.block.now) small
