use Rattle.std.proofs.Common.{rules}
use Rattle.plinq_crew.proofs.conducting.fn.conduct.scope+FnOnce.call_once.Goals as goal

pub scope-requires : goal.scope-requires
scope-requires g c = search rules
