-- what a call took stands after what was written before it; a call that was interrupted has written nothing
use Rattle.std.proofs.Common.{arith}
use Rattle.std.proofs.KnownBytes.{Appends-kept}
use Rattle.plinq_lines.proofs.WrittenBytes.{appends-piece, within-piece}
use Rattle.plinq_lines.proofs.bytes.write_bytes.Goals as goal
use Rattle.plinq_lines.proofs.bytes.write_bytes.Goals.{in-Ok, in-Err}

pub loop-preserved : goal.loop-preserved
loop-preserved g c = elim c.match-write.branch [
  | in-Ok w ↦ record {
    within = within-piece _ _ _ _ w.written-is c.loop.invariant.within w.in-Ok.ensures.bound;
    appended = appends-piece _ _ _ _ _ _ _ w.written-is c.loop.invariant.appended w.in-Ok.ensures.bytes;
  }
  | in-Err w ↦ record {
    within = omega arith;
    appended = rw w.written-is (Appends-kept _ _ _ _ c.loop.invariant.appended w.in-Err.ensures.bytes);
  }
]
