use Rattle.std.proofs.Common.{rules, ◌≡◌, ◌∙◌, take, ap}
use Rattle.plinq_source.proofs.Followed.{trace_of}
use Rattle.plinq_ops.proofs.Joined.{trace_of_block, joined_pieces-filtered}
use Rattle.plinq_ops.proofs.blocks.filter.Goals as goal

pub returns : goal.returns
returns g c =
    let cut : c.truncate.new.self.items ≡ take c.filter_items-len.result.0 c.filter_items-len.new.block.items = search rules in
    ap (λ xs. trace_of xs c.ending_of.result) cut
    ∙ ap (trace_of (take c.filter_items-len.result.0 c.filter_items-len.new.block.items)) c.ending_of.ensures
    ∙ ap trace_of_block c.filter_items-len.ensures.filtered
    ∙ joined_pieces-filtered g.L.Lambda.meaning c.args.f.now c.args.block.now.items
