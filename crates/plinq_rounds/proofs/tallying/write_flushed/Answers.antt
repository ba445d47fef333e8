use Rattle.plinq_rounds.proofs.PassLaws.{writes-flushed}
use Rattle.plinq_rounds.proofs.tallying.write_flushed.Goals as goal

pub returns : goal.returns
returns g c = writes-flushed _ _ _ c.args.bytes.now c.flush.result c.in_ok-write_bytes.ensures c.flush.ensures.kept
