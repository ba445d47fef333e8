use Rattle.std.proofs.Common.{rules, ◌≡◌, ◌<◌, ◌-◌, ◌%◌, [], ◌++◌, length, drop, Some, arith, ◌∙◌, ap, sym}
use Rattle.plinq_ops.specs.Batches.{full_batches}
use Rattle.plinq_merge.specs.Sending.{Leads}
use Rattle.plinq_merge.proofs.Blocks.{held_back-rest, rest-short, filled-all}
use Rattle.plinq_merge.proofs.sending.hand_whole.Goals as goal

pub returns : goal.returns
returns g c =
    let n = c.args.ring.now.capacity in
    let xs = c.args.items.now in
    let rest = c.split_at.result.1.now in
    let size : c.capacity-size.result ≡ n = search rules in
    let back : rest ≡ drop (length xs - length xs % n) xs = search rules in
    let short : length rest < n = rw back (rest-short n xs c.requires.size) in
    let empty = c.requires.empty in
    let is : c.fill_from_slice.new.self.items ≡ [] ++ rest =
    filled-all n c.fill_from_slice.result [] rest c.fill_from_slice.new.self.items (rw empty at c.fill_from_slice.ensures.count) (omega arith)
    (rw empty at (ap (λ b. b.items) c.fill_from_slice.ensures.items)) in
    let sent : Leads g.K.Sink.accepts c.args.sink.now (full_batches (Some n) [] xs) c.batches_of.new.self = search rules in
    let capacity : c.fill_from_slice.new.self.capacity ≡ n = search rules in
    let kept = is ∙ back ∙ sym (held_back-rest n xs c.requires.size) in
    rw empty (record { size = ap Some capacity; room = omega (arith, short, capacity, ap length is); filled = record { held = kept; sent = sent } })
