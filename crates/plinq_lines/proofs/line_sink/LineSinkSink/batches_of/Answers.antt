-- what was written are whole lines, and where the writer failed a beginning of the next
use Rattle.std.proofs.Common.{rules, ◌<◌, ◌≤◌, [], length, sym, refl, arith}
use Rattle.plinq_merge.proofs.Blocks.{full_batches-first, full_batches-short}
use Rattle.plinq_lines.proofs.BatchesTaken.{since-appends, since-begins, all-taken, first-taken, none-taken}
use Rattle.plinq_lines.proofs.line_sink.LineSinkSink.batches_of.Goals as goal

pub returns-then-items-size : goal.returns-then-items-size
returns-then-items-size g c =
    let short : length c.args.items.now < c.args.size = search rules in
    rw (full_batches-short c.args.size [] c.args.items.now (omega (arith, short))) refl

pub returns-then-has_failed : goal.returns-then-has_failed
returns-then-has_failed g c =
    let enough : c.args.size ≤ length c.args.items.now = search rules in
    none-taken c.args.self.now _ _ _ (full_batches-first c.args.size c.args.items.now c.requires enough)

pub returns-in-Ok : goal.returns-in-Ok
returns-in-Ok g c =
    let enough : c.args.size ≤ length c.args.items.now = search rules in
    rw (sym c.self.view_is) (all-taken _ _ _ _ _ (full_batches-first c.args.size c.args.items.now c.requires enough)
    (since-appends _ _ _ _ c.self.invariant c.in-Ok.ensures) refl)

pub returns-in-Err : goal.returns-in-Err
returns-in-Err g c =
    let enough : c.args.size ≤ length c.args.items.now = search rules in
    rw (sym c.self.view_is) (first-taken _ _ _ _ _ (full_batches-first c.args.size c.args.items.now c.requires enough)
    (since-begins _ _ _ _ c.self.invariant c.in-Err.ensures) refl)
