-- one is written after those before it, and at the end the line feed
use Rattle.plinq_lines.specs.OpWords.{further_op}
use Rattle.plinq_lines.proofs.ItemLines.{line-first, line-none}
use Rattle.plinq_lines.proofs.PartWritten.{piece-failed, piece-written, rest-writes}
use Rattle.plinq_lines.proofs.op_words.write_further_ops.Goals as goal

pub returns-in_err-write_op : goal.returns-in_err-write_op
returns-in_err-write_op g c =
    piece-failed _ _ _ _ c.loop-op.invariant (line-first further_op _ _ _ c.in-Some.ensures.cases.0) c.from_residual.ensures.0 c.in_err-write_op.ensures

pub loop-op-preserved : goal.loop-op-preserved
loop-op-preserved g c = piece-written _ _ _ c.loop-op.invariant (line-first further_op _ _ _ c.in-Some.ensures.cases.0) c.in_ok-write_op.ensures

pub returns : goal.returns
returns g c = rest-writes _ _ _ c.loop-op.invariant (line-none further_op _ c.in_default.ensures.cases) c.write_pieces.ensures
