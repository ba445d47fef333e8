use Rattle.std.proofs.Common.{rules}
use Rattle.plinq_crew.proofs.worker.fn.Crew.start.spawn_with+FnOnce.call_once.Goals as goal

pub spawn_with-requires : goal.spawn_with-requires
spawn_with-requires g c = search rules
