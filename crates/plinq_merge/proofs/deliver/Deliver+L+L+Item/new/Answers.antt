use Rattle.std.proofs.Common.{rules, ◌≡◌, [], false, refl, sym}
use Rattle.plinq_ops.specs.{Batches.batch_size, Pipeline.IsReached}
use Rattle.plinq_ops.proofs.ByKey.{stages-begun}
use Rattle.plinq_merge.specs.Buffer.{held_of, size_of, HasRoom}
use Rattle.plinq_merge.proofs.Delivered.{begun-undecided, can-undecided}
use Rattle.plinq_merge.proofs.deliver.Deliver+L+L+Item.new.Goals as goal

pub returns-clause-begun : goal.returns-clause-begun
returns-clause-begun g c =
    let reached : IsReached g.L.Lambda.meaning c.args.ops.now 0 c.in_ok-pipeline.pipeline = search rules in
    let empty : held_of c.in_ok-buffer.buffer ≡ [] = search rules in
    let size : size_of c.in_ok-buffer.buffer ≡ batch_size c.args.option = search rules in
    rw (reached.same, stages-begun g.L.Lambda.meaning c.args.ops.now c.in_ok-pipeline.pipeline reached, empty, size) refl

pub returns-clause-ready : goal.returns-clause-ready
returns-clause-ready g c = λ some.
    let reached : IsReached g.L.Lambda.meaning c.args.ops.now 0 c.in_ok-pipeline.pipeline = search rules in
    let room : HasRoom c.in_ok-buffer.buffer = search rules in
    can-undecided g.L.Lambda.meaning (record { alloc = c.args.alloc; pipeline = c.in_ok-pipeline.pipeline; buffer = c.in_ok-buffer.buffer })
    (begun-undecided g.L.Lambda.meaning c.in_ok-pipeline.pipeline c.args.ops.now c.args.ops.now false (sym some) refl refl reached) room
