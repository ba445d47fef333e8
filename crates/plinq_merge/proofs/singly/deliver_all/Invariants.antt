use Rattle.std.proofs.Common.{◌≡◌, length, ◌-◌, None}
use Rattle.plinq_ops.specs.{Pipeline.stages, Sequential.first_items}
use Rattle.plinq_merge.specs.Buffer.{held_of, size_of, HasRoom}
use Rattle.plinq_merge.proofs.Delivered.{HasSent}
use Rattle.plinq_merge.proofs.singly.deliver_all.Given as goal

-- the items given so far were fed and left the run open; what came out is sent, held back for a batch, or waits to be given to it
abbrev pub invariant-loop-made : goal.invariant-loop-made
invariant-loop-made g l =
    record {
      whole : g.S.Source.whole l.source ≡ g.S.Source.whole l.fn.source;
      size : size_of l.buffer ≡ size_of l.fn.buffer;
      room : HasRoom l.buffer;
      sent : HasSent g.K.Sink.accepts (size_of l.fn.buffer) (stages g.L.Lambda.meaning l.fn.pipeline) l.fn.sink
          (first_items (g.S.Source.given l.source) (g.S.Source.whole l.fn.source)) (held_of l.buffer) l.made.items
          (stages g.L.Lambda.meaning l.pipeline) l.sink None;
    }

abbrev pub decreases-loop-made : goal.decreases-loop-made
decreases-loop-made g l = length (g.S.Source.whole l.source).items - g.S.Source.given l.source
