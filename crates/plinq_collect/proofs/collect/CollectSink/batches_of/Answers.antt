-- What fills batches is added at once, or nothing is.
use Rattle.std.proofs.Common.{rules, ◌≡◌, ◌++◌, ◌-◌, ◌<◌, ◌≤◌, ◌%◌, [], length, take, sym, refl, ap, ◌∙◌, arith}
use Rattle.plinq_merge.proofs.Blocks.{full_batches-first, full_batches-short}
use Rattle.plinq_collect.proofs.Collected.{all-added, none-added, items_of-full}
use Rattle.plinq_collect.proofs.collect.CollectSink.batches_of.Goals as goal

pub returns-then-items-size : goal.returns-then-items-size
returns-then-items-size g c =
    let short : length c.args.items.now < c.args.size = search rules in
    rw (full_batches-short c.args.size [] c.args.items.now (omega (arith, short))) refl

pub returns-in-Ok : goal.returns-in-Ok
returns-in-Ok g c =
    let n = c.args.size in
    let xs = c.args.items.now in
    let enough : n ≤ length xs = search rules in
    let added : c.extend_from_slice.new.self.items ≡ c.args.self.now.0.items ++ take (length xs - length xs % n) xs = search rules in
    all-added _ _ _ _ _ (full_batches-first n xs c.requires enough) (added ∙ ap (λ ys. c.args.self.now.0.items ++ ys) (sym (items_of-full n xs c.requires)))

pub returns-in-Err : goal.returns-in-Err
returns-in-Err g c =
    let enough : c.args.size ≤ length c.args.items.now = search rules in
    let same : c.extend_from_slice.new.self.items ≡ c.args.self.now.0.items = search rules in
    none-added c.args.self.now (record { 0 = c.extend_from_slice.new.self }) _ _ _ (full_batches-first c.args.size c.args.items.now c.requires enough) same
