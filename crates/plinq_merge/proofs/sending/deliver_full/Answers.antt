use Rattle.std.proofs.Common.{rules, ◌≡◌, [], ◌∷◌, ◌++◌, ◌<◌, length, length-append, Err, Some, arith, take, drop, ◌∙◌, ap, sym, refl, ◌==◌, false}
use Rattle.plinq_merge.specs.Sending.{Leads, IsCutOff}
use Rattle.plinq_merge.proofs.Blocks.{taken-full, batches-short, filled-all, short-filled}
use Rattle.plinq_merge.specs.inner.Sent.{cut-before, delivers-after, delivers-as}
use Rattle.plinq_merge.proofs.sending.deliver_full.Goals as goal

pub returns-then-not-is_full : goal.returns-then-not-is_full
returns-then-not-is_full g c =
    let n = c.in-Ring.ring.capacity in
    let held = c.in-Ring.ring.items in
    let xs = c.args.items.now in
    let k = c.fill_from_slice-taken.result in
    let room : length held < n = rw c.in-Ring.is at c.requires in
    let is : c.fill_from_slice-taken.new.self.items ≡ held ++ take k xs = search rules in
    let test : (length c.fill_from_slice-taken.new.self.items == n) ≡ false = search rules in
    let few = short-filled n k held xs c.fill_from_slice-taken.new.self.items c.fill_from_slice-taken.ensures.count is room test in
    let kept = batches-short n held xs few in
    let all = filled-all n k held xs c.fill_from_slice-taken.new.self.items c.fill_from_slice-taken.ensures.count (omega arith) is in
    let capacity : c.fill_from_slice-taken.new.self.capacity ≡ n = search rules in
    rw c.in-Ring.is (record {
      size = ap Some capacity;
      room = omega (arith, few, capacity, ap length all ∙ length-append held xs);
      filled = record { held = all ∙ sym kept.1; sent = rw kept.0 refl };
    })

pub returns-in_err-sent-in-Ring : goal.returns-in_err-sent-in-Ring
returns-in_err-sent-in-Ring g c =
    let held = c.in-Ring.ring.items in
    let xs = c.args.items.now in
    let k = c.fill_from_slice-taken.result in
    let is : c.make_contiguous.result.now ≡ held ++ take k xs = search rules in
    let full : length (held ++ take k xs) ≡ c.in-Ring.ring.capacity = search rules in
    let err : c.from_residual.result ≡ Err c.in_err-sent-in-Ring.field-0.0 = search rules in
    let cut : IsCutOff g.K.Sink.accepts g.K.Sink.refuses c.args.sink.now (c.make_contiguous.result.now ∷ []) c.in_err-sent-in-Ring.field-0.0
    c.send-sent.new.sink =
    search rules in
    let parts = taken-full c.in-Ring.ring.capacity k held xs (rw c.in-Ring.is at c.requires) full in
    rw (c.in-Ring.is, err) (record {
      size = search rules;
      room = tt;
      filled = record { held = tt; sent = rw parts.0 (cut-before _ _ _ ((held ++ take k xs) ∷ []) _ _ _ (rw is at cut)) };
    })

pub returns-in_ok-sent-in-Ring : goal.returns-in_ok-sent-in-Ring
returns-in_ok-sent-in-Ring g c =
    let n = c.in-Ring.ring.capacity in
    let held = c.in-Ring.ring.items in
    let xs = c.args.items.now in
    let k = c.fill_from_slice-taken.result in
    let is : c.make_contiguous.result.now ≡ held ++ take k xs = search rules in
    let full : length (held ++ take k xs) ≡ n = search rules in
    let rest : c.split_at.result.1.now ≡ drop k xs = c.split_at.ensures.back in
    let empty : c.clear.new.self.items ≡ [] = search rules in
    let capacity : c.clear.new.self.capacity ≡ n = search rules in
    let sent : Leads g.K.Sink.accepts c.args.sink.now (c.make_contiguous.result.now ∷ []) c.send-sent.new.sink = search rules in
    let parts = taken-full n k held xs (rw c.in-Ring.is at c.requires) full in
    let others = rw (empty, capacity, rest) at c.hand_whole-in-Ring.ensures in
    let all = delivers-after _ _ _ ((held ++ take k xs) ∷ []) _ _ _ _ (rw is at sent) others.filled.sent in
    let sends = delivers-as _ _ _ _ _ _ _ parts.0 all in
    rw c.in-Ring.is (record { size = others.size; room = others.room; filled = record { held = rw parts.1 others.filled.held; sent = sends } })
