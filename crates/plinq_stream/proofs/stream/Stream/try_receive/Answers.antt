use Rattle.plinq_stream.proofs.Steps.{comes}
use Rattle.plinq_stream.proofs.stream.Stream.try_receive.Goals as goal

pub try_pop_as-received-requires-clause-rule : goal.try_pop_as-received-requires-clause-rule
try_pop_as-received-requires-clause-rule g c = comes g.C.Admits.admits _ _ c.requires.receives
