-- a partition is written after those before it
use Rattle.std.proofs.Common.{◌+◌, ◌++◌, length, ap, sym, ◌∙◌, arith}
use Rattle.plinq_keyed.specs.Keys.{element_lists}
use Rattle.plinq_lines.specs.PartsText.{part_line, part_lines}
use Rattle.plinq_lines.proofs.PartWritten.{piece-failed, piece-written}
use Rattle.plinq_lines.proofs.parts_lines.write_partitions.Goals as goal

pub returns-in_err-write_partition : goal.returns-in_err-write_partition
returns-in_err-write_partition g c =
    let n = c.loop-part.number in
    let first = ap (λ parts. part_lines n (element_lists parts)) c.in-Some.ensures.cases.0 in
    let slice = ap (λ xs. part_line n xs ++ part_lines (n + 1) (element_lists c.in-Some.following.now)) (sym c.as_slice.ensures.value) in
    piece-failed _ _ _ _ c.loop-part.invariant.written (first ∙ slice) c.from_residual.ensures.0 c.in_err-write_partition.ensures

pub loop-part-preserved : goal.loop-part-preserved
loop-part-preserved g c =
    let n = c.loop-part.number in
    let first = ap (λ parts. part_lines n (element_lists parts)) c.in-Some.ensures.cases.0 in
    let slice = ap (λ xs. part_line n xs ++ part_lines (n + 1) (element_lists c.in-Some.following.now)) (sym c.as_slice.ensures.value) in
    record {
      counted = omega (arith, ap length c.in-Some.ensures.cases.0, c.loop-part.invariant.counted);
      written = piece-written _ _ _ c.loop-part.invariant.written (first ∙ slice) c.in_ok-write_partition.ensures;
    }
