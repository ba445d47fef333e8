-- a line is written after those before it
use Rattle.std.proofs.Common.{rules, ◌≡◌, ℕ, ◌<◌, ◌≤◌, ℤ, List, [], ◌++◌, Some, length, take, drop, arith, ap}
use Rattle.std.specs.List.{flat_map}
use Rattle.plinq_ops.specs.Batches.{full_batches}
use Rattle.plinq_merge.proofs.Blocks.{full_batches-first, full_batches-short}
use Rattle.plinq_lines.specs.AnswerText.{batch_line}
use Rattle.plinq_lines.proofs.PartWritten.{piece-failed, piece-written, all-written}
use Rattle.plinq_lines.proofs.batch_lines.write_long_batches.Goals as goal

cut : (n : ℕ) (xs front back : List ℤ) → 0 < n → n ≤ length xs → front ≡ take n xs → back ≡ drop n xs
    → flat_map batch_line (full_batches (Some n) [] xs) ≡ batch_line front ++ flat_map batch_line (full_batches (Some n) [] back)
cut n xs front back some enough first rest = rw (first, rest) (ap (flat_map batch_line) (full_batches-first n xs some enough))

pub returns-in_err-write_long_batch : goal.returns-in_err-write_long_batch
returns-in_err-write_long_batch g c =
    let enough : c.args.size ≤ length c.loop-rest.rest.now = search rules in
    piece-failed _ _ _ _ c.loop-rest.invariant (cut c.args.size _ _ _ c.requires enough c.split_at.ensures.front c.split_at.ensures.back)
    c.from_residual.ensures.0 c.in_err-write_long_batch.ensures

pub loop-rest-preserved : goal.loop-rest-preserved
loop-rest-preserved g c =
    let enough : c.args.size ≤ length c.loop-rest.rest.now = search rules in
    piece-written _ _ _ c.loop-rest.invariant (cut c.args.size _ _ _ c.requires enough c.split_at.ensures.front c.split_at.ensures.back)
    c.in_ok-write_long_batch.ensures

pub returns : goal.returns
returns g c =
    let short : length c.loop-rest.rest.now < c.args.size = search rules in
    all-written c.loop-rest.invariant (ap (flat_map batch_line) (full_batches-short c.args.size [] c.loop-rest.rest.now (omega (arith, short))))
