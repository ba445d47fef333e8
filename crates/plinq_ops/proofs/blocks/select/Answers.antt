use Rattle.std.proofs.Common.{rules, ◌≡◌, ◌∙◌, take, ap}
use Rattle.plinq_source.proofs.Followed.{trace_of}
use Rattle.plinq_ops.proofs.Joined.{trace_of_block, joined_pieces-mapped}
use Rattle.plinq_ops.proofs.blocks.select.Goals as goal

pub returns : goal.returns
returns g c =
    let cut : c.truncate.new.self.items ≡ take c.map_items-len.result.0 c.map_items-len.new.block.items = search rules in
    ap (λ xs. trace_of xs c.ending_of.result) cut
    ∙ ap (trace_of (take c.map_items-len.result.0 c.map_items-len.new.block.items)) c.ending_of.ensures
    ∙ ap trace_of_block c.map_items-len.ensures.mapped
    ∙ joined_pieces-mapped g.L.Lambda.meaning c.args.f.now c.args.block.now.items
