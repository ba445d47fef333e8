use Rattle.std.proofs.Common.{rules, arith, ◌≡◌, ◌<◌, [], length, Some, sym, refl}
use Rattle.plinq_merge.specs.Buffer.{held_of, size_of}
use Rattle.plinq_merge.specs.inner.Sent.{delivers-as}
use Rattle.plinq_merge.proofs.{Blocks.batches-filled, Delivered.on-any}
use Rattle.plinq_merge.proofs.singly.deliver_made.Goals as goal

-- just one batch
pub returns-then-is_filled_by : goal.returns-then-is_filled_by
returns-then-is_filled_by g c =
    let buffer = c.args.buffer.now in
    let made = c.args.made.now in
    let empty : held_of buffer ≡ [] = search rules in
    let size : size_of buffer ≡ Some (length made) = search rules in
    let some : 0 < length made = rw (size, empty) at c.requires in
    let whole = batches-filled (length made) [] made some (omega arith) in
    let kept = on-any c.send.result (sym whole.1) in
    let sent = delivers-as _ _ _ _ _ _ _ whole.0 c.send.ensures in
    record { size = refl; room = on-any c.send.result c.requires; filled = rw (size, empty) (record { held = kept; sent = sent }) }
