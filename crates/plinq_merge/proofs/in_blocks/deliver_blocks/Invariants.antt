use Rattle.std.proofs.Common.{◌≡◌, length, ◌-◌, [], None}
use Rattle.plinq_ops.specs.{Pipeline.stages, Sequential.first_items}
use Rattle.plinq_merge.specs.Buffer.{held_of, size_of, HasRoom}
use Rattle.plinq_merge.proofs.Delivered.{HasSent}
use Rattle.plinq_merge.proofs.in_blocks.deliver_blocks.Given as goal

-- the items given so far were fed and left the run open; what came out is sent, or held back for a batch
abbrev pub invariant-loop-block : goal.invariant-loop-block
invariant-loop-block g l =
    record {
      whole : g.S.Source.whole l.source ≡ g.S.Source.whole l.fn.source;
      size : size_of l.buffer ≡ size_of l.fn.buffer;
      room : HasRoom l.buffer;
      empty : l.block.items ≡ [];
      sent : HasSent g.K.Sink.accepts (size_of l.fn.buffer) (stages g.L.Lambda.meaning l.fn.pipeline) l.fn.sink
          (first_items (g.S.Source.given l.source) (g.S.Source.whole l.fn.source)) (held_of l.buffer) [] (stages g.L.Lambda.meaning l.pipeline) l.sink None;
    }

abbrev pub decreases-loop-block : goal.decreases-loop-block
decreases-loop-block g l = length (g.S.Source.whole l.source).items - g.S.Source.given l.source
