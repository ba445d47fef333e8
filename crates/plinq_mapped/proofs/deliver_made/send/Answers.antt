use Rattle.std.proofs.Common.{[], refl}
use Rattle.plinq_mapped.proofs.deliver_made.send.Goals as goal

pub returns-in-Err : goal.returns-in-Err
returns-in-Err g c = ([], c.args.batch.now, [], c.args.sink.now, refl, refl, c.in-Err.ensures)
